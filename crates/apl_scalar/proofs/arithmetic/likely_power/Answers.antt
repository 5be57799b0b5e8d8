use Rattle.std.proofs.Common.{◌≡◌, ◌+◌, ◌/◌, ◌%◌, ◌^◌, ◌<◌, ◌*ℤ◌, Ok, FitsSigned, pos, bit_or, to_z, of_z, w32, w64, sym, ap, ◌∙◌, arith, rules}
use Rattle.std.specs.Int.{int_pow}
use Rattle.std.proofs.lemmas.Int.{to_z-of_z}
use Rattle.std.proofs.lemmas.Nat.{le_or_l, le_or_r}
use Rattle.apl_scalar.specs.Scalar.{exact, power}
use Rattle.apl_scalar.proofs.Exact.{exact_is}
use Rattle.apl_scalar.proofs.PowerBits.{small_natural, natural_power, power_sum, power_of_square}
use Rattle.apl_scalar.proofs.arithmetic.likely_power.Goals as goal

pub returns : goal.returns
returns c = λ none.
    let exponent = c.cast_unsigned-exponent.result in
    let squared = c.half_product.result in
    let square = c.power_of_bit-square.result in
    let first = c.chosen_product-first.result in
    let second = c.times_power_of_bit-second.result in
    let value = c.half_product-2.result in
    let above_x = c.above_least_half.result in
    let above_square = c.above_least_half-2.result in
    let above_first = c.above_least_half-3.result in
    let above_second = c.above_least_half-4.result in
    let two = bit_or above_x above_square in
    let three = bit_or two above_first in
    let farther = bit_or three above_second in
    let high = exponent / 4 % 2 in
    let middle = exponent / 2 % 2 in
    let low = exponent % 2 in
    let half = high + high + middle in
    let all : farther < 2 ^ 32 = omega (arith, none, le_or_l (farther / 2 ^ 32) (exponent / 8)) in
    let small : exponent < 8 = omega (arith, none, le_or_r (farther / 2 ^ 32) (exponent / 8)) in
    let three_small : three < 2 ^ 32 = omega (arith, all, le_or_l three above_second) in
    let two_small : two < 2 ^ 32 = omega (arith, three_small, le_or_l two above_first) in
    let base = to_z w64 (of_z w64 c.args.x) in
    let x_is = to_z-of_z w64 c.args.x c.ranges.x in
    let squared_stored : to_z w64 (of_z w64 squared) ≡ squared = search rules in
    let square_stored : to_z w64 (of_z w64 square) ≡ square = search rules in
    let first_stored : to_z w64 (of_z w64 first) ≡ first = search rules in
    let second_stored : to_z w64 (of_z w64 second) ≡ second = search rules in
    let value_stored : to_z w64 (of_z w64 value) ≡ value = search rules in
    let x_narrow : FitsSigned w32 base = c.above_least_half.ensures (omega (arith, two_small, le_or_l above_x above_square)) in
    let square_narrow : FitsSigned w32 (to_z w64 (of_z w64 square)) = c.above_least_half-2.ensures (omega (arith, two_small, le_or_r above_x above_square)) in
    let first_narrow : FitsSigned w32 (to_z w64 (of_z w64 first)) = c.above_least_half-3.ensures (omega (arith, three_small, le_or_r two above_first)) in
    let second_narrow : FitsSigned w32 (to_z w64 (of_z w64 second)) = c.above_least_half-4.ensures (omega (arith, all, le_or_r three above_second)) in
    let squared_is = exact_is (base *ℤ base) squared (c.half_product.ensures x_narrow x_narrow) in
    let square_is : to_z w64 (of_z w64 square) ≡ int_pow base (high + high) =
    square_stored ∙ c.power_of_bit-square.ensures ∙ ap (λ z. int_pow z high) (squared_stored ∙ sym squared_is) ∙ power_of_square base high (omega arith) in
    let first_is : int_pow base half ≡ to_z w64 (of_z w64 first) =
    sym (power_sum base (high + high) middle) ∙ ap (λ z. z *ℤ int_pow base middle) (sym square_is)
    ∙ exact_is (to_z w64 (of_z w64 square) *ℤ int_pow base middle) first (c.chosen_product-first.ensures x_narrow square_narrow) ∙ sym first_stored in
    let second_is : int_pow base (half + low) ≡ to_z w64 (of_z w64 second) =
    sym (power_sum base half low) ∙ ap (λ z. z *ℤ int_pow base low) first_is
    ∙ exact_is (to_z w64 (of_z w64 first) *ℤ int_pow base low) second (c.times_power_of_bit-second.ensures x_narrow first_narrow) ∙ sym second_stored in
    let product_is : int_pow base (half + (half + low)) ≡ to_z w64 (of_z w64 first) *ℤ to_z w64 (of_z w64 second) =
    sym (power_sum base half (half + low)) ∙ ap (λ z. int_pow base half *ℤ z) second_is ∙ ap (λ z. z *ℤ to_z w64 (of_z w64 second)) first_is in
    let y_is : c.args.y ≡ pos exponent =
    small_natural c.args.y exponent c.ranges.y (c.cast_unsigned-exponent.ensures ∙ ap (of_z w64) (to_z-of_z w64 c.args.y c.ranges.y)) small in
    let whole : exponent ≡ half + (half + low) = omega (arith, small) in
    ap (power c.args.x) y_is ∙ natural_power c.args.x exponent ∙ ap (λ n. exact (int_pow c.args.x n)) whole ∙ ap (λ z. exact (int_pow z (half + (half + low)))) (sym x_is)
    ∙ ap exact product_is ∙ c.half_product-2.ensures first_narrow second_narrow ∙ ap Ok (sym value_stored)
