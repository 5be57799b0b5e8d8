use Rattle.std.proofs.Common.{◌≡◌, ◌*◌, ◌≤◌, length, map, take, vec_capacity}
use Rattle.apl_array.specs.Array.{bit}
use Rattle.apl_struct.proofs.bits.truths_of.Given as goal

abbrev pub invariant-loop-turn : goal.invariant-loop-turn
invariant-loop-turn g l = record {
  truths : map bit l.truths.items ≡ take (l.turn * 4) (map g.T.Numeric.number_in l.numbers);
  room : length l.numbers ≤ vec_capacity l.truths;
}
