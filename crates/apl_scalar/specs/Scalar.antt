-- The scalar functions, over exact whole numbers and characters, one line a function.
use Rattle.std.specs.Prelude.{ℤ, pos, negsuc, neg_ℤ, ◌+ℤ◌, ◌-ℤ◌, ◌*ℤ◌, ◌%◌, ◌^◌, Bool, true, false, not, ◌&&◌, ◌||◌, ◌==◌, nat_le, int_lt, int_le, int_div, int_rem, unsigned_abs, Result, Ok, Err, Option, Some, None, if◌then◌else◌}
use Rattle.std.specs.Int.{w32, int_min, int_max, int_signum, int_pow, int_wrap, is_negative}
use Rattle.std.specs.Ordering.{int_eq}
use Rattle.apl_array.specs.declared.array.Elem.{Elem}
use Rattle.apl_array.specs.declared.array.Elem.TheVariants.{Int, Chr}
pub use Rattle.apl_array.specs.Array.{bit}
use Rattle.apl_array.specs.Range.{in_range, least_number, greatest_number}
use Rattle.apl_pool.specs.declared.kernel.Fault.{Fault}
use Rattle.apl_pool.specs.declared.kernel.Fault.TheVariants.{Domain, Limit}
use Rattle.apl_answer.specs.Arguments.{is_bit}
use Rattle.apl_array.specs.declared.function.ScalarFunction.{ScalarFunction}
use Rattle.apl_array.specs.declared.function.ScalarFunction.TheVariants.{Plus, Minus, Times, Divide, Stile, Star, Bang, Floor, Ceiling, And, Or, Nand, Nor, Less, LessOrEqual, Equal, GreaterOrEqual, Greater, NotEqual, Tilde}
use Rattle.apl_scalar.specs.Arithmetic.{factorial, binomial, residue}

-- an exact whole number, or Limit if it is outside the range
abbrev pub exact : ℤ → Result ℤ Fault
exact z = if in_range z then Ok z else Err Limit

-- ---- 0 and 1

-- the number is 1
abbrev pub is_one : ℤ → Bool
is_one z = int_eq z (pos 1)

-- a function of two truth values, of which 1 is true and 0 is false
abbrev pub logical : (Bool → Bool → Bool) → ℤ → ℤ → Result ℤ Fault
logical f x y = if is_bit x && is_bit y then Ok (bit (f (is_one x) (is_one y))) else Err Domain

-- `~x`, of a bit alone
abbrev pub negation : ℤ → Result ℤ Fault
negation x = if is_bit x then Ok (bit (not (is_one x))) else Err Domain

-- ---- functions that are whole, or defined, at some numbers only

-- 1 divided by 1 is 1, and 1 divided by -1 is -1
abbrev pub reciprocal : ℤ → Result ℤ Fault
reciprocal x = if int_eq x (pos 1) || int_eq x (negsuc 0) then Ok x else Err Domain

-- 0 divided by 0 is 1, nothing else is divided by 0, and the quotient must be whole
abbrev pub quotient : ℤ → ℤ → Result ℤ Fault
quotient x y =
    if int_eq y (pos 0) then (if int_eq x (pos 0) then Ok (pos 1) else Err Domain)
    else if int_eq (int_rem x y) (pos 0) then exact (int_div x y)
    else Err Domain

-- the exact power; a negative power is whole for 1 and -1 alone
abbrev pub power : ℤ → ℤ → Result ℤ Fault
power x y =
    if not (is_negative y) then exact (int_pow x (unsigned_abs y))
    else if int_eq x (pos 1) then Ok (pos 1)
    else if int_eq x (negsuc 0) then Ok (if unsigned_abs y % 2 == 0 then pos 1 else negsuc 0)
    else Err Domain

-- `!x`, not of a negative number
abbrev pub factorial_of : ℤ → Result ℤ Fault
factorial_of x = if is_negative x then Err Domain else exact (pos (factorial (unsigned_abs x)))

-- in how many ways x of y things are chosen
abbrev pub combinations : ℤ → ℤ → Result ℤ Fault
combinations x y = if is_negative x || is_negative y then Err Domain else exact (pos (binomial (unsigned_abs y) (unsigned_abs x)))

-- ---- the tables

-- a monadic function of a number. It is asked only of monadic functions
abbrev pub monadic_number : ScalarFunction → ℤ → Result ℤ Fault
monadic_number Plus x = Ok x
monadic_number Minus x = exact (neg_ℤ x)
monadic_number Times x = Ok (int_signum x)
monadic_number Divide x = reciprocal x
monadic_number Stile x = exact (pos (unsigned_abs x))
monadic_number Bang x = factorial_of x
monadic_number Floor x = Ok x
monadic_number Ceiling x = Ok x
monadic_number Tilde x = negation x
monadic_number _ x = Err Domain

-- a dyadic function of two numbers. It is asked only of dyadic functions
abbrev pub dyadic_numbers : ScalarFunction → ℤ → ℤ → Result ℤ Fault
dyadic_numbers Plus x y = exact (x +ℤ y)
dyadic_numbers Minus x y = exact (x -ℤ y)
dyadic_numbers Times x y = exact (x *ℤ y)
dyadic_numbers Divide x y = quotient x y
dyadic_numbers Stile x y = Ok (residue x y)
dyadic_numbers Star x y = power x y
dyadic_numbers Bang x y = combinations x y
dyadic_numbers Floor x y = Ok (int_min x y)
dyadic_numbers Ceiling x y = Ok (int_max x y)
dyadic_numbers And x y = logical (λ p q. p && q) x y
dyadic_numbers Or x y = logical (λ p q. p || q) x y
dyadic_numbers Nand x y = logical (λ p q. not (p && q)) x y
dyadic_numbers Nor x y = logical (λ p q. not (p || q)) x y
dyadic_numbers Less x y = Ok (bit (int_lt x y))
dyadic_numbers LessOrEqual x y = Ok (bit (int_le x y))
dyadic_numbers Equal x y = Ok (bit (int_eq x y))
dyadic_numbers GreaterOrEqual x y = Ok (bit (int_le y x))
dyadic_numbers Greater x y = Ok (bit (int_lt y x))
dyadic_numbers NotEqual x y = Ok (bit (not (int_eq x y)))
dyadic_numbers Tilde x y = Err Domain

-- whether all results are 0 or 1, or faults
abbrev pub is_truth_valued : ScalarFunction → Bool
is_truth_valued And = true
is_truth_valued Or = true
is_truth_valued Nand = true
is_truth_valued Nor = true
is_truth_valued Less = true
is_truth_valued LessOrEqual = true
is_truth_valued Equal = true
is_truth_valued GreaterOrEqual = true
is_truth_valued Greater = true
is_truth_valued NotEqual = true
is_truth_valued Tilde = true
is_truth_valued _ = false

-- what the right fold of no element gives
abbrev pub identity_of : ScalarFunction → Option ℤ
identity_of Plus = Some (pos 0)
identity_of Minus = Some (pos 0)
identity_of Times = Some (pos 1)
identity_of Divide = Some (pos 1)
identity_of Stile = Some (pos 0)
identity_of Star = Some (pos 1)
identity_of Bang = Some (pos 1)
identity_of Floor = Some greatest_number
identity_of Ceiling = Some least_number
identity_of And = Some (pos 1)
identity_of Or = Some (pos 0)
identity_of Nand = None
identity_of Nor = None
identity_of Less = Some (pos 0)
identity_of LessOrEqual = Some (pos 1)
identity_of Equal = Some (pos 1)
identity_of GreaterOrEqual = Some (pos 1)
identity_of Greater = Some (pos 0)
identity_of NotEqual = Some (pos 0)
identity_of Tilde = None

-- ---- elements

-- the result of a monadic function, which a character doesn't have
abbrev pub monadic_of : ScalarFunction → Elem → Result ℤ Fault
monadic_of f (Int x) = monadic_number f x
monadic_of f (Chr c) = Err Domain

-- the result for two elements, one of which is a character, by whether they are equal
abbrev pub compare_elements : ScalarFunction → Bool → Result ℤ Fault
compare_elements Equal same = Ok (bit same)
compare_elements NotEqual same = Ok (bit (not same))
compare_elements _ same = Err Domain

-- the result of a dyadic function, which is always a number. A character never equals a number
abbrev pub dyadic_of : ScalarFunction → Elem → Elem → Result ℤ Fault
dyadic_of f (Int x) (Int y) = dyadic_numbers f x y
dyadic_of f (Chr c) (Chr d) = compare_elements f (c == d)
dyadic_of f (Int x) (Chr d) = compare_elements f false
dyadic_of f (Chr c) (Int y) = compare_elements f false

-- the number as an element, or the fault
abbrev pub as_element : Result ℤ Fault → Result Elem Fault
as_element (Ok z) = Ok (Int z)
as_element (Err fault) = Err fault

-- the number as a truth value, or the fault
abbrev pub truth_outcome : Result ℤ Fault → Result Bool Fault
truth_outcome (Ok z) = Ok (is_one z)
truth_outcome (Err fault) = Err fault

-- ---- numbers held in 32 bits

-- the number that the low 32 bits of a number are, or the fault
abbrev pub narrow_outcome : Result ℤ Fault → Result ℤ Fault
narrow_outcome (Ok z) = Ok (int_wrap w32 z)
narrow_outcome (Err fault) = Err fault

-- whether the function is the residue, whose results may be held so
abbrev pub is_residue : ScalarFunction → Bool
is_residue Stile = true
is_residue _ = false

-- whether 32 bits hold all residues by the number: it is not 0, and its magnitude is at most 2^31
abbrev pub has_narrow_residues : ℤ → Bool
has_narrow_residues x = not (int_eq x (pos 0)) && nat_le (unsigned_abs x) (2 ^ 31)
