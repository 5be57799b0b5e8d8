use Rattle.std.proofs.Common.{◌≡◌, ◌+◌, map, take, length, vec_capacity}
use Rattle.apl_summary.specs.Fronts.{HasMoreAppended}
use Rattle.apl_summary.proofs.running.append_some.Given as goal

abbrev pub invariant-loop-offset : goal.invariant-loop-offset
invariant-loop-offset g l = record {
  state : g.F.PrefixState.is_of l.state (take (l.from + l.offset) (map g.T.Numeric.number_in l.numbers));
  folds : HasMoreAppended g.F.PrefixState.step (map g.T.Numeric.number_in l.numbers) l.from l.initial.values.items l.values.items;
  len : length l.values.items ≡ length l.initial.values.items + l.offset;
  capacity : vec_capacity l.values ≡ vec_capacity l.initial.values;
}
