use Rattle.std.proofs.Common.{◌≡◌, ◌<◌, ℤ, Ok, to_z, of_z, w64, sym, ap, ◌∙◌, arith}
use Rattle.std.proofs.lemmas.Int.{to_z-of_z}
use Rattle.apl_reduce.proofs.TruthFolds.{zeros_onto, one_onto}
use Rattle.apl_reduce.proofs.truth_folds.any_onto.Goals as goal
use Rattle.apl_reduce.proofs.truth_folds.any_onto.Goals.{After-ones}

read : (c : After-ones) → to_z w64 (of_z w64 c.args.total) ≡ c.args.total
read c = to_z-of_z w64 c.args.total c.ranges.total

low : (c : After-ones) → of_z w64 c.args.total < 2
low c = let bits = c.cast_unsigned.ensures ∙ ap (of_z w64) (read c) in omega (arith, bits, c.if-cast_unsigned-gt1.false)

pub returns-then-ones-eq0 : goal.returns-then-ones-eq0
returns-then-ones-eq0 c f asks =
    let at = (goal.at.returns-then-ones-eq0 c).After-ones in
    zeros_onto c.args.truths.now c.args.first c.args.count c.args.total c.ranges.total (low at) f asks (sym c.ones.ensures.value ∙ c.if-ones-eq0.true) ∙ ap (λ (z : ℤ). Ok z) (sym (read at))

pub returns-else-ones-eq0 : goal.returns-else-ones-eq0
returns-else-ones-eq0 c f asks =
    let at = (goal.at.returns-else-ones-eq0 c).After-ones in
    one_onto c.args.truths.now c.args.first c.args.count c.args.total c.ranges.total (low at) f asks (omega (arith, c.ones.ensures.value, c.if-ones-eq0.false))
