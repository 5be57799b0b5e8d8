use Rattle.std.proofs.Common.{◌+◌, ◌/◌, ◌%◌, ◌^◌, arith}
use Rattle.std.proofs.lemmas.Int.{ints}
use Rattle.std.proofs.lemmas.Nat.{le_or_l, le_or_r}
use Rattle.apl_reduce.proofs.near_rows.doubts.Goals as goal

pub returns-clause-bits : goal.returns-clause-bits
returns-clause-bits c = λ none.
    let above = (c.cast_unsigned-above.result + 2 ^ 62) % 2 ^ 64 in
    omega (arith, none, le_or_l (c.args.bits / 2 ^ 47) (above / 2 ^ 63))

pub returns-clause-total : goal.returns-clause-total
returns-clause-total c = λ none.
    let above = (c.cast_unsigned-above.result + 2 ^ 62) % 2 ^ 64 in
    omega (arith, ints, none, le_or_r (c.args.bits / 2 ^ 47) (above / 2 ^ 63), c.cast_unsigned-above.ensures)
