use Rattle.std.proofs.Common.{◌≡◌, ◌*◌, ◌<◌, map, ℤ, Ok, to_z, of_z, w64, sym, ap, ◌∙◌, arith}
use Rattle.std.proofs.lemmas.Int.{to_z-of_z}
use Rattle.apl_array.specs.declared.array.Elem.TheVariants.{Int}
use Rattle.apl_reduce.specs.Folded.{folded_onto}
use Rattle.apl_reduce.specs.Items.{item_in}
use Rattle.apl_reduce.proofs.BitFolds.{and_of_ones, and_with_zero, or_with_one, or_of_zeros}
use Rattle.apl_reduce.proofs.bit_folds.bit_fold.Given.{Over}
use Rattle.apl_reduce.proofs.bit_folds.bit_fold.Goals as goal
use Rattle.apl_reduce.proofs.bit_folds.bit_fold.Goals.{After-FUNCTION}

read : (g : Over) (c : After-FUNCTION g) → to_z w64 (of_z w64 c.args.total) ≡ c.args.total
read g c = to_z-of_z w64 c.args.total c.ranges.total

total_low : (g : Over) (c : After-FUNCTION g) → of_z w64 c.args.total < 2
total_low g c =
    let bits : c.cast_unsigned.result ≡ of_z w64 c.args.total = c.cast_unsigned.ensures ∙ ap (of_z w64) (read g c) in
    omega (arith, bits, c.if-cast_unsigned-gt1.false)

any_low : (g : Over) (c : After-FUNCTION g) → c.of_halves-bits.result.any < 2
any_low g c = omega (arith, c.if-bits-gt1.false)

pub returns-then-bits-eq1 : goal.returns-then-bits-eq1
returns-then-bits-eq1 g c =
    let at = (goal.at.returns-then-bits-eq1 g c).After-FUNCTION in
    let named = sym c.FUNCTION.ensures ∙ c.in-And.is in
    ap (λ f. folded_onto f (item_in (map Int (map g.T.Numeric.number_in c.args.numbers.now))) c.args.first (2 * c.args.half) (Ok c.args.total)) named
    ∙ and_of_ones (map g.T.Numeric.number_in c.args.numbers.now) c.args.first (2 * c.args.half) _ _ c.of_halves-bits.ensures (any_low g at) c.args.total c.ranges.total (total_low g at) (omega (arith, c.if-bits-eq1.true))
    ∙ ap (λ (z : ℤ). Ok z) (sym (read g at))

pub returns-else-bits-eq1 : goal.returns-else-bits-eq1
returns-else-bits-eq1 g c =
    let at = (goal.at.returns-else-bits-eq1 g c).After-FUNCTION in
    let named = sym c.FUNCTION.ensures ∙ c.in-And.is in
    ap (λ f. folded_onto f (item_in (map Int (map g.T.Numeric.number_in c.args.numbers.now))) c.args.first (2 * c.args.half) (Ok c.args.total)) named
    ∙ and_with_zero (map g.T.Numeric.number_in c.args.numbers.now) c.args.first (2 * c.args.half) _ _ c.of_halves-bits.ensures (any_low g at) c.args.total c.ranges.total (total_low g at) (omega (arith, c.of_halves-bits.ensures.low, c.if-bits-eq1.false))

pub returns-then-bits-eq1-2 : goal.returns-then-bits-eq1-2
returns-then-bits-eq1-2 g c =
    let at = (goal.at.returns-then-bits-eq1-2 g c).After-FUNCTION in
    let named = sym c.FUNCTION.ensures ∙ c.in-Or.is in
    ap (λ f. folded_onto f (item_in (map Int (map g.T.Numeric.number_in c.args.numbers.now))) c.args.first (2 * c.args.half) (Ok c.args.total)) named
    ∙ or_with_one (map g.T.Numeric.number_in c.args.numbers.now) c.args.first (2 * c.args.half) _ _ c.of_halves-bits.ensures (any_low g at) c.args.total c.ranges.total (total_low g at) (omega (arith, c.if-bits-eq1-2.true))

pub returns-else-bits-eq1-2 : goal.returns-else-bits-eq1-2
returns-else-bits-eq1-2 g c =
    let at = (goal.at.returns-else-bits-eq1-2 g c).After-FUNCTION in
    let named = sym c.FUNCTION.ensures ∙ c.in-Or.is in
    ap (λ f. folded_onto f (item_in (map Int (map g.T.Numeric.number_in c.args.numbers.now))) c.args.first (2 * c.args.half) (Ok c.args.total)) named
    ∙ or_of_zeros (map g.T.Numeric.number_in c.args.numbers.now) c.args.first (2 * c.args.half) _ _ c.of_halves-bits.ensures (any_low g at) c.args.total c.ranges.total (total_low g at) (omega (arith, any_low g at, c.if-bits-eq1-2.false))
    ∙ ap (λ (z : ℤ). Ok z) (sym (read g at))
