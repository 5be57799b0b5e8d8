-- The answers of numbers in the range are in the range.
use Rattle.std.proofs.Common.{◌≡◌, ◌∙◌, ℕ, zero, suc, ◌-◌, ◌-ℤ◌, ◌*ℤ◌, ◌%◌, ◌<◌, ◌==◌, ℤ, pos, negsuc, neg_ℤ, Bool, true, false, if◌then◌else◌, List, length, Result, Ok, Err, refl, sym, ⊎_elim, arith}
use Rattle.std.specs.Prelude.{◌||◌, ◌&&◌, ◌+ℤ◌, ◌<ℤ◌, IfOk, int_lt, int_le, int_rem, int_div, not, unsigned_abs}
use Rattle.std.specs.Int.{int_pow, int_signum, int_rem_euclid, is_negative}
use Rattle.std.specs.Ordering.{int_eq}
use Rattle.std.proofs.lemmas.Bool.{cases_lt}
use Rattle.std.proofs.lemmas.Int.{ints}
use Rattle.std.proofs.lemmas.List.{get_or_past}
use Rattle.std.proofs.Math.Nat.{mod-lt}
use Rattle.apl_array.specs.declared.array.Elem.{Elem}
use Rattle.apl_array.specs.declared.array.Elem.TheVariants.{Int, Chr}
use Rattle.apl_array.specs.declared.array.Kind.{Kind}
use Rattle.apl_array.specs.declared.array.Kind.TheVariants.{Number}
use Rattle.apl_array.specs.Shape.{IsIndexOf, place_of}
use Rattle.apl_array.specs.Array.{ArrayValue, bit, element_at}
use Rattle.apl_array.specs.Range.{IsInRange, in_range, IsElementInRange, HasNumbersInRange}
use Rattle.apl_pool.specs.declared.kernel.Fault.{Fault}
use Rattle.apl_pool.specs.declared.kernel.Fault.TheVariants.{Limit}
use Rattle.apl_array.specs.declared.function.ScalarFunction.{ScalarFunction}
use Rattle.apl_array.specs.declared.function.ScalarFunction.TheVariants.{Plus, Minus, Times, Divide, Stile, Star, Bang, Floor, Ceiling, And, Or, Nand, Nor, Less, LessOrEqual, Equal, GreaterOrEqual, Greater, NotEqual, Tilde}
use Rattle.apl_answer.specs.declared.fault.OpFault.{OpFault}
use Rattle.apl_scalar.specs.Arithmetic.{factorial, binomial, residue}
use Rattle.apl_answer.specs.Arguments.{is_bit}
use Rattle.apl_scalar.specs.Scalar.{exact, is_one, logical, quotient, power, monadic_number, dyadic_numbers, monadic_of, compare_elements, dyadic_of, as_element}
use Rattle.apl_answer.specs.Pointwise.{answer_of}
use Rattle.apl_scalar.specs.Extension.{extended_shape, source_index}
use Rattle.apl_scalar.specs.Monadic.{monadic_element, monadic_answer}
use Rattle.apl_scalar.specs.Dyadic.{dyadic_number, answer_over, dyadic_answer}
use Rattle.apl_scalar.proofs.Exact.{RangeLaw}
use Rattle.apl_scalar.proofs.Residues.{residue_pos, residue_zero, residue_neg}

zero_in : IsInRange (pos 0)
zero_in = record { least = omega (arith, ints); greatest = omega (arith, ints) }

one_in : IsInRange (pos 1)
one_in = record { least = omega (arith, ints); greatest = omega (arith, ints) }

minus_one_in : IsInRange (negsuc 0)
minus_one_in = record { least = omega (arith, ints); greatest = omega (arith, ints) }

-- one of two numbers, and one of two results
either_number : (b : Bool) (x y : ℤ) → IsInRange x → IsInRange y → IsInRange (if b then x else y)
either_number true x y h k = h
either_number false x y h k = k

either : (b : Bool) (r s : Result ℤ Fault) → IfOk r IsInRange → IfOk s IsInRange → IfOk (if b then r else s) IsInRange
either true r s h k = h
either false r s h k = k

bit_in : (b : Bool) → IsInRange (bit b)
bit_in b = either_number b (pos 1) (pos 0) one_in zero_in

-- a residue lies between 0 and the number that it is taken by
remainder_below : (b a : ℤ) (m : ℕ) → unsigned_abs a ≡ suc m → (k : ℕ) × (int_rem_euclid b a ≡ pos k) × (k < suc m)
remainder_below (pos n) a m is = let h : 0 < suc m = omega arith in (n % unsigned_abs a, refl, rw is (mod-lt n h))
remainder_below (negsuc n) a m is = (unsigned_abs a - 1 - n % unsigned_abs a, refl, omega (arith, is))

negative_residue_in : (m : ℕ) (b : ℤ) (k : ℕ) → int_rem_euclid b (negsuc m) ≡ pos k → k < suc m → IsInRange (negsuc m) → IsInRange (residue (negsuc m) b)
negative_residue_in m b zero rest below h =
    let negative : negsuc m <ℤ pos 0 = omega (arith, ints) in
    rw (residue_zero (negsuc m) b negative rest) zero_in
negative_residue_in m b (suc k) rest below h =
    let negative : negsuc m <ℤ pos 0 = omega (arith, ints) in
    let some : int_rem_euclid b (negsuc m) ≡ pos 0 → ⊥ = λ none. absurd (omega (arith, ints, sym rest ∙ none)) in
    let least = h.least in
    let inside : IsInRange (pos (suc k) +ℤ negsuc m) = record { least = omega (arith, ints); greatest = omega (arith, ints) } in
    rw (residue_neg (negsuc m) b negative some, rest) inside

residue_in : (a b : ℤ) → IsInRange a → IsInRange b → IsInRange (residue a b)
residue_in (pos zero) b h k = k
residue_in (pos (suc m)) b h k =
    let rest = remainder_below b (pos (suc m)) m refl in
    let below = rest.2 in
    let greatest = h.greatest in
    let inside : IsInRange (pos rest.0) = record { least = omega (arith, ints); greatest = omega (arith, ints) } in
    rw (residue_pos (pos (suc m)) b (omega (arith, ints)), rest.1) inside
residue_in (negsuc m) b h k =
    let rest = remainder_below b (negsuc m) m refl in
    negative_residue_in m b rest.0 rest.1 rest.2 h

sign_in : (x : ℤ) → IsInRange (int_signum x)
sign_in (pos n) = record { least = omega (arith, ints); greatest = omega (arith, ints) }
sign_in (negsuc n) = minus_one_in

compare_in : (f : ScalarFunction) (same : Bool) → IfOk (compare_elements f same) IsInRange
compare_in Equal same = bit_in same
compare_in NotEqual same = bit_in (not same)
compare_in _ same = tt

-- the element at an index list, and 0 beside the array
pub element_at_in : (a : ArrayValue) (index : List ℕ) → HasNumbersInRange a → IsElementInRange (element_at a index)
element_at_in a index h =
    let place = place_of a.shape index in
    ⊎_elim
    (λ within. h place (Int (pos 0)) within)
    (λ past. rw (get_or_past a.ravel place (Int (pos 0)) past) zero_in)
    (cases_lt place (length a.ravel))

pub as_element_in : (r : Result ℤ Fault) → IfOk r IsInRange → IfOk (as_element r) IsElementInRange
as_element_in (Ok z) h = h
as_element_in (Err fault) h = tt

-- outcomes in the range make an answer in the range
abbrev pub AnswerLaw : Type 0
AnswerLaw = (shape : List ℕ) (outcome : List ℕ → Result Elem Fault) (kind : Kind) (a : ArrayValue)
    → ((index : List ℕ) → IsIndexOf shape index → IfOk (outcome index) IsElementInRange)
    → answer_of shape outcome kind ≡ Ok a → HasNumbersInRange a

module _ (range : RangeLaw) where
  exact_in : (z : ℤ) → IfOk (exact z) IsInRange
  exact_in z = elim (in_range z) as (λ b. in_range z ≡ b → IfOk (if b then Ok z else Err Limit) IsInRange) [
    | true ↦ λ is. (range.decided z).0 is
    | false ↦ λ is. tt
  ] refl

  logical_in : (f : Bool → Bool → Bool) (x y : ℤ) → IfOk (logical f x y) IsInRange
  logical_in f x y = either (is_bit x && is_bit y) _ _ (bit_in (f (is_one x) (is_one y))) tt

  quotient_in : (x y : ℤ) → IfOk (quotient x y) IsInRange
  quotient_in x y =
      either (int_eq y (pos 0)) _ _ (either (int_eq x (pos 0)) _ _ one_in tt)
      (either (int_eq (int_rem x y) (pos 0)) _ _ (exact_in (int_div x y)) tt)

  power_in : (x y : ℤ) → IfOk (power x y) IsInRange
  power_in x y =
      either (not (is_negative y)) _ _ (exact_in (int_pow x (unsigned_abs y)))
      (either (int_eq x (pos 1)) _ _ one_in
      (either (int_eq x (negsuc 0)) _ _ (either_number (unsigned_abs y % 2 == 0) (pos 1) (negsuc 0) one_in minus_one_in) tt))

  monadic_in : (f : ScalarFunction) (x : ℤ) → IsInRange x → IfOk (monadic_number f x) IsInRange
  monadic_in Plus x h = h
  monadic_in Minus x h = exact_in (neg_ℤ x)
  monadic_in Times x h = sign_in x
  monadic_in Divide x h = either (int_eq x (pos 1) || int_eq x (negsuc 0)) _ _ h tt
  monadic_in Stile x h = exact_in (pos (unsigned_abs x))
  monadic_in Bang x h = either (is_negative x) _ _ tt (exact_in (pos (factorial (unsigned_abs x))))
  monadic_in Floor x h = h
  monadic_in Ceiling x h = h
  monadic_in Tilde x h = either (is_bit x) _ _ (bit_in (not (is_one x))) tt
  monadic_in _ x h = tt

  dyadic_in : (f : ScalarFunction) (x y : ℤ) → IsInRange x → IsInRange y → IfOk (dyadic_numbers f x y) IsInRange
  dyadic_in Plus x y h k = exact_in (x +ℤ y)
  dyadic_in Minus x y h k = exact_in (x -ℤ y)
  dyadic_in Times x y h k = exact_in (x *ℤ y)
  dyadic_in Divide x y h k = quotient_in x y
  dyadic_in Stile x y h k = residue_in x y h k
  dyadic_in Star x y h k = power_in x y
  dyadic_in Bang x y h k = either (is_negative x || is_negative y) _ _ tt (exact_in (pos (binomial (unsigned_abs y) (unsigned_abs x))))
  dyadic_in Floor x y h k = either_number (int_lt y x) y x k h
  dyadic_in Ceiling x y h k = either_number (int_lt y x) x y h k
  dyadic_in And x y h k = logical_in (λ p q. p && q) x y
  dyadic_in Or x y h k = logical_in (λ p q. p || q) x y
  dyadic_in Nand x y h k = logical_in (λ p q. not (p && q)) x y
  dyadic_in Nor x y h k = logical_in (λ p q. not (p || q)) x y
  dyadic_in Less x y h k = bit_in (int_lt x y)
  dyadic_in LessOrEqual x y h k = bit_in (int_le x y)
  dyadic_in Equal x y h k = bit_in (int_eq x y)
  dyadic_in GreaterOrEqual x y h k = bit_in (int_le y x)
  dyadic_in Greater x y h k = bit_in (int_lt y x)
  dyadic_in NotEqual x y h k = bit_in (not (int_eq x y))
  dyadic_in Tilde x y h k = tt

  pub monadic_of_in : (f : ScalarFunction) (x : Elem) → IsElementInRange x → IfOk (monadic_of f x) IsInRange
  monadic_of_in f (Int x) h = monadic_in f x h
  monadic_of_in f (Chr c) h = tt

  pub dyadic_of_in : (f : ScalarFunction) (x y : Elem) → IsElementInRange x → IsElementInRange y → IfOk (dyadic_of f x y) IsInRange
  dyadic_of_in f (Int x) (Int y) h k = dyadic_in f x y h k
  dyadic_of_in f (Chr c) (Chr d) h k = compare_in f (c == d)
  dyadic_of_in f (Int x) (Chr d) h k = compare_in f false
  dyadic_of_in f (Chr c) (Int y) h k = compare_in f false

  pub monadic_answer_in : AnswerLaw → (f : ScalarFunction) (b a : ArrayValue) → HasNumbersInRange b → monadic_answer f b ≡ Ok a → HasNumbersInRange a
  monadic_answer_in law f b a h is =
      law b.shape (λ index. as_element (monadic_element f b index)) Number a
      (λ index lawful. as_element_in (monadic_element f b index) (monadic_of_in f (element_at b index) (element_at_in b index h))) is

  answer_over_in : AnswerLaw → (f : ScalarFunction) (a b c : ArrayValue) (shape : Result (List ℕ) OpFault) → HasNumbersInRange a → HasNumbersInRange b
      → answer_over f a b shape ≡ Ok c → HasNumbersInRange c
  answer_over_in law f a b c (Err fault) h k is = absurd cc
  answer_over_in law f a b c (Ok shape) h k is =
      law shape (λ index. as_element (dyadic_number f a b shape index)) Number c
      (λ index lawful. as_element_in (dyadic_number f a b shape index)
      (dyadic_of_in f (element_at a (source_index a.shape shape index)) (element_at b (source_index b.shape shape index))
      (element_at_in a (source_index a.shape shape index) h) (element_at_in b (source_index b.shape shape index) k))) is

  pub dyadic_answer_in : AnswerLaw → (f : ScalarFunction) (a b c : ArrayValue) → HasNumbersInRange a → HasNumbersInRange b → dyadic_answer f a b ≡ Ok c → HasNumbersInRange c
  dyadic_answer_in law f a b c h k is = answer_over_in law f a b c (extended_shape a.shape b.shape) h k is
