-- The results of truth-valued functions, read as truth values.
use Rattle.std.proofs.Common.{◌≡◌, ◌==◌, Bool, true, false, if◌then◌else◌, ℤ, Result, Ok, Err, refl}
use Rattle.std.specs.Prelude.{◌&&◌, ◌||◌, IsTrue, int_lt, int_le, not}
use Rattle.std.specs.Ordering.{int_eq}
use Rattle.apl_array.specs.declared.array.Elem.{Elem}
use Rattle.apl_array.specs.declared.array.Elem.TheVariants.{Int, Chr}
use Rattle.apl_array.specs.declared.function.ScalarFunction.{ScalarFunction}
use Rattle.apl_array.specs.declared.function.ScalarFunction.TheVariants.{And, Or, Nand, Nor, Less, LessOrEqual, Equal, GreaterOrEqual, Greater, NotEqual, Tilde}
use Rattle.apl_array.specs.Array.{bit, truth_element}
use Rattle.apl_pool.specs.declared.kernel.Fault.{Fault}
use Rattle.apl_pool.specs.declared.kernel.Fault.TheVariants.{Domain}
use Rattle.apl_answer.specs.Arguments.{is_bit}
use Rattle.apl_answer.specs.Elements.{element_outcome}
use Rattle.apl_scalar.specs.Scalar.{is_one, logical, monadic_number, dyadic_numbers, is_truth_valued, monadic_of, compare_elements, dyadic_of, as_element, truth_outcome}

-- the result is the same element if it is read as a truth value
abbrev pub IsTruth : Result ℤ Fault → Type 0
IsTruth r = element_outcome truth_element (truth_outcome r) ≡ as_element r

of_bit : (b : Bool) → IsTruth (Ok (bit b))
of_bit true = refl
of_bit false = refl

of_bit_or_domain : (both b : Bool) → IsTruth (if both then Ok (bit b) else Err Domain)
of_bit_or_domain true b = of_bit b
of_bit_or_domain false b = refl

of_logical : (f : Bool → Bool → Bool) (x y : ℤ) → IsTruth (logical f x y)
of_logical f x y = of_bit_or_domain (is_bit x && is_bit y) (f (is_one x) (is_one y))

of_monadic_number : (f : ScalarFunction) (x : ℤ) → IsTrue (is_truth_valued f) → IsTruth (monadic_number f x)
of_monadic_number And x truth = refl
of_monadic_number Or x truth = refl
of_monadic_number Nand x truth = refl
of_monadic_number Nor x truth = refl
of_monadic_number Less x truth = refl
of_monadic_number LessOrEqual x truth = refl
of_monadic_number Equal x truth = refl
of_monadic_number GreaterOrEqual x truth = refl
of_monadic_number Greater x truth = refl
of_monadic_number NotEqual x truth = refl
of_monadic_number Tilde x truth = of_bit_or_domain (is_bit x) (not (is_one x))
of_monadic_number _ x truth = absurd cc

of_dyadic_numbers : (f : ScalarFunction) (x y : ℤ) → IsTrue (is_truth_valued f) → IsTruth (dyadic_numbers f x y)
of_dyadic_numbers And x y truth = of_logical (λ p q. p && q) x y
of_dyadic_numbers Or x y truth = of_logical (λ p q. p || q) x y
of_dyadic_numbers Nand x y truth = of_logical (λ p q. not (p && q)) x y
of_dyadic_numbers Nor x y truth = of_logical (λ p q. not (p || q)) x y
of_dyadic_numbers Less x y truth = of_bit (int_lt x y)
of_dyadic_numbers LessOrEqual x y truth = of_bit (int_le x y)
of_dyadic_numbers Equal x y truth = of_bit (int_eq x y)
of_dyadic_numbers GreaterOrEqual x y truth = of_bit (int_le y x)
of_dyadic_numbers Greater x y truth = of_bit (int_lt y x)
of_dyadic_numbers NotEqual x y truth = of_bit (not (int_eq x y))
of_dyadic_numbers Tilde x y truth = refl
of_dyadic_numbers _ x y truth = absurd cc

of_compared : (f : ScalarFunction) (same : Bool) → IsTruth (compare_elements f same)
of_compared Equal same = of_bit same
of_compared NotEqual same = of_bit (not same)
of_compared _ same = refl

pub monadic_is_truth : (f : ScalarFunction) (x : Elem) → IsTrue (is_truth_valued f) → IsTruth (monadic_of f x)
monadic_is_truth f (Int x) truth = of_monadic_number f x truth
monadic_is_truth f (Chr c) truth = refl

pub dyadic_is_truth : (f : ScalarFunction) (x y : Elem) → IsTrue (is_truth_valued f) → IsTruth (dyadic_of f x y)
dyadic_is_truth f (Int x) (Int y) truth = of_dyadic_numbers f x y truth
dyadic_is_truth f (Chr c) (Chr d) truth = of_compared f (c == d)
dyadic_is_truth f (Int x) (Chr d) truth = of_compared f false
dyadic_is_truth f (Chr c) (Int y) truth = of_compared f false
