use Rattle.std.proofs.Common.{◌≡◌, ◌≤◌, ◌+ℤ◌, ℕ, ℤ, pos, Ok, FitsSigned, to_z, of_z, w64, unsigned_abs, sym, ap, ◌∙◌, arith}
use Rattle.std.proofs.lemmas.Int.{ints, to_z-of_z}
use Rattle.apl_reduce.proofs.TruthFolds.{sums, is_small}
use Rattle.apl_reduce.proofs.truth_folds.sum_onto.Goals as goal
use Rattle.apl_reduce.proofs.truth_folds.sum_onto.Goals.{After-ones}

read : (c : After-ones) → to_z w64 (of_z w64 c.args.total) ≡ c.args.total
read c = to_z-of_z w64 c.args.total c.ranges.total

small : (c : After-ones) → unsigned_abs c.args.total ≤ 2
small c =
    let bits = c.cast_unsigned.ensures ∙ ap (of_z w64) (read c) in
    is_small c.args.total c.ranges.total (omega (arith, bits, c.if-cast_unsigned-gt2.false))

few_fit : (n : ℕ) → n ≤ 1073741824 → to_z w64 n ≡ pos n
few_fit n few = omega (arith, ints, few)

sum_fits : (z : ℤ) (n : ℕ) → unsigned_abs z ≤ 2 → n ≤ 1073741824 → FitsSigned w64 (z +ℤ pos n)
sum_fits z n near few = omega (arith, ints, near, few)

pub overflow_add-result : goal.overflow_add-result
overflow_add-result c =
    let at = (goal.at.overflow_add-result c).After-ones in
    rw (read at, few_fit c.ones.result (omega (arith, c.ones.ensures.most, c.requires.within, c.requires.most))) (sum_fits c.args.total c.ones.result (small at) (omega (arith, c.ones.ensures.most, c.requires.within, c.requires.most)))

pub returns : goal.returns
returns c =
    let at = (goal.at.returns c).After-ones in
    let few : c.ones.result ≤ 1073741824 = omega (arith, c.ones.ensures.most, c.requires.within, c.requires.most) in
    let near = small at in
    rw (read at, few_fit c.ones.result few, to_z-of_z w64 (c.args.total +ℤ pos c.ones.result) (sum_fits c.args.total c.ones.result near few))
    (sums c.args.truths.now c.args.first c.range_is_decided.ensures.decided c.range_is_decided.ensures.bits c.args.count c.args.total (omega (arith, near, few, c.ones.ensures.most, c.requires.within, c.requires.most))
    ∙ ap (λ n. Ok (c.args.total +ℤ pos n)) (sym c.ones.ensures.value))
