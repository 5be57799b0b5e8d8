use Rattle.std.proofs.Common.{◌≡◌, ◌<◌, ℤ, Ok, to_z, of_z, w64, sym, ap, ◌∙◌, arith}
use Rattle.std.proofs.lemmas.Int.{to_z-of_z}
use Rattle.apl_reduce.proofs.TruthFolds.{ones_onto, zero_onto}
use Rattle.apl_reduce.proofs.truth_folds.all_onto.Goals as goal
use Rattle.apl_reduce.proofs.truth_folds.all_onto.Goals.{After-ones}

read : (c : After-ones) → to_z w64 (of_z w64 c.args.total) ≡ c.args.total
read c = to_z-of_z w64 c.args.total c.ranges.total

low : (c : After-ones) → of_z w64 c.args.total < 2
low c = let bits = c.cast_unsigned.ensures ∙ ap (of_z w64) (read c) in omega (arith, bits, c.if-cast_unsigned-gt1.false)

pub returns-then-ones-count : goal.returns-then-ones-count
returns-then-ones-count c f asks =
    let at = (goal.at.returns-then-ones-count c).After-ones in
    ones_onto c.args.truths.now c.args.first c.args.count c.args.total c.ranges.total (low at) f asks (sym c.ones.ensures.value ∙ c.if-ones-count.true) ∙ ap (λ (z : ℤ). Ok z) (sym (read at))

pub returns-else-ones-count : goal.returns-else-ones-count
returns-else-ones-count c f asks =
    let at = (goal.at.returns-else-ones-count c).After-ones in
    zero_onto c.args.truths.now c.args.first c.args.count c.args.total c.ranges.total (low at) f asks (omega (arith, c.ones.ensures.value, c.ones.ensures.most, c.if-ones-count.false))
