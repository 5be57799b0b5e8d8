use Rattle.std.proofs.Common.{◌≡◌, ◌+◌, ◌-◌, ◌%◌, length}
use Rattle.apl_pool.specs.Runs.{AreWritten}
use Rattle.apl_scan.specs.Lines.{scan_at}
use Rattle.apl_summary.specs.Running.{IsSummaryOrNone}
use Rattle.apl_scan.specs.Running.{stretch}
use Rattle.apl_scan.proofs.summarized.Scans.scan_run.Given as goal

abbrev pub invariant-loop-k : goal.invariant-loop-k
invariant-loop-k g l = record {
  before : IsSummaryOrNone g.S.Summary.step (λ k. g.S.Summary.item_count k.summary) (λ k. g.S.Summary.outcome k.summary)
      (stretch l.self.numbers.now (l.from - l.from % l.self.items) (l.from % l.self.items + l.k)) l.running;
  written : AreWritten (scan_at g.S.Summary.step l.self.numbers.now l.self.items 1) l.from (l.from + l.k) l.room;
  len : length l.room ≡ length l.initial.room;
}
