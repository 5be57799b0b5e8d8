use Rattle.std.proofs.Common.{◌≡◌, true, length, map, take, vec_capacity}
use Rattle.std.specs.List.{list_all}
use Rattle.apl_array.specs.Array.{bit}
use Rattle.apl_answer.specs.Arguments.{is_bit}
use Rattle.apl_struct.proofs.bits.judge_up_to.Given as goal

abbrev pub invariant-loop-i : goal.invariant-loop-i
invariant-loop-i g l = record {
  bits : l.are_bits ≡ list_all is_bit (take l.i (map g.T.Numeric.number_in l.numbers));
  len : length l.truths.items ≡ l.i;
  truths : l.are_bits ≡ true → map bit l.truths.items ≡ take l.i (map g.T.Numeric.number_in l.numbers);
  room : vec_capacity l.truths ≡ vec_capacity l.initial.truths;
}
