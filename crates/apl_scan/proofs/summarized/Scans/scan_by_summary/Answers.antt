use Rattle.std.proofs.Common.{◌≡◌, ◌+◌, ◌-◌, ◌%◌, length, arith}
use Rattle.apl_scan.specs.Running.{stretch}
use Rattle.apl_scan.proofs.ScannedPlaces.{kept_summary, written_behind}
use Rattle.apl_scan.proofs.summarized.Scans.scan_by_summary.Goals as goal

pub returns-clause-values : goal.returns-clause-values
returns-clause-values g c =
    let self = c.args.self.now in
    let from = c.args.from in
    let len = length c.args.room.now in
    let before = stretch self.numbers.now (from - from % self.items) (from % self.items) in
    let summary = kept_summary g.S.Summary.step g.S.Summary.item_count g.S.Summary.outcome (λ k. k.summary) c.args.running.now c.summary_of.result before c.summary_of.ensures c.requires.running in
    let all : from + len - from ≡ len = omega arith in
    written_behind g.S.Summary.step self.numbers.now c.scan_run.new._room self.items from c.scan_run.result len c.requires.line c.requires.within c.scan_run.ensures.most c.scan_run.ensures.len
    (rw all at (c.scan_run.ensures.folds before summary))
