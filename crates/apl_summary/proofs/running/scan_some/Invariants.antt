use Rattle.std.proofs.Common.{◌≡◌, ◌+◌, length}
use Rattle.apl_summary.specs.Fronts.{AreMoreFolds, IsFrontBehind}
use Rattle.apl_summary.proofs.running.scan_some.Given as goal

abbrev pub invariant-loop-offset : goal.invariant-loop-offset
invariant-loop-offset g l = record {
  front : IsFrontBehind g.F.PrefixState.is_of l.initial.front l.numbers l.from (l.from + l.offset) l.front;
  folds : AreMoreFolds g.F.PrefixState.step g.F.PrefixState.is_of l.initial.front l.numbers l.from l.initial.room (l.from + l.offset) l.room;
  len : length l.room ≡ length l.initial.room;
}
