use Rattle.std.proofs.Common.{◌+◌, ◌-◌, ◌*◌, ◌/◌, ◌%◌}
use Rattle.apl_scan.specs.declared.chunks.TheConstants.{CHUNK}
use Rattle.apl_summary.specs.Running.{IsSummaryOrNone}
use Rattle.apl_scan.specs.Running.{stretch}
use Rattle.apl_scan.proofs.summarized.Scans.before.Given as goal

abbrev pub invariant-loop-done : goal.invariant-loop-done
invariant-loop-done g l =
    IsSummaryOrNone g.S.Summary.step (λ k. g.S.Summary.item_count k.summary) (λ k. g.S.Summary.outcome k.summary)
    (stretch l.self.numbers.now (l.place - l.place % l.self.items) (l.place % l.self.items / CHUNK * CHUNK + l.done)) l.running
