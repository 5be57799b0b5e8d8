use Rattle.std.proofs.Common.{◌≡◌, ◌+◌, ◌*◌, map, take, vec_len, vec_capacity}
use Rattle.apl_summary.specs.Running.{HasFoldsAppended}
use Rattle.apl_summary.proofs.running.append_scan_after.Given as goal

abbrev pub invariant-loop-turn : goal.invariant-loop-turn
invariant-loop-turn g l = record {
  front : g.F.PrefixState.is_of l.front (take (l.turn * 4) (map g.T.Numeric.number_in l.numbers));
  folds : HasFoldsAppended g.F.PrefixState.step (map g.T.Numeric.number_in l.numbers) l.initial.values.items l.values.items;
  len : vec_len l.values ≡ vec_len l.initial.values + l.turn * 4;
  capacity : vec_capacity l.values ≡ vec_capacity l.initial.values;
}
