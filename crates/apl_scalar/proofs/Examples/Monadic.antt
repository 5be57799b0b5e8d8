-- Worked examples of the scalar functions of one number, the rows of the table in order.
use Rattle.std.proofs.Common.{◌≡◌, pos, negsuc, neg_ℤ, Ok, Err, refl}
use Rattle.apl_pool.specs.declared.kernel.Fault.TheVariants.{Domain, Limit}
use Rattle.apl_array.specs.declared.array.Elem.TheVariants.{Chr}
use Rattle.apl_array.specs.declared.function.ScalarFunction.TheVariants.{Plus, Minus, Times, Divide, Stile, Bang, Floor, Ceiling, Tilde}
use Rattle.apl_scalar.specs.Scalar.{monadic_number, monadic_of}

-- +¯7
identity_of_a_number : monadic_number Plus (negsuc 6) ≡ Ok (negsuc 6)
identity_of_a_number = refl

-- -5
negated : monadic_number Minus (pos 5) ≡ Ok (negsuc 4)
negated = refl

-- -¯9223372036854775808
least_negated : monadic_number Minus (neg_ℤ (pos 9223372036854775808)) ≡ Err Limit
least_negated = refl

-- ×¯12
sign_of_a_negative : monadic_number Times (negsuc 11) ≡ Ok (negsuc 0)
sign_of_a_negative = refl

-- ×0
sign_of_zero : monadic_number Times (pos 0) ≡ Ok (pos 0)
sign_of_zero = refl

-- ×12
sign_of_a_positive : monadic_number Times (pos 12) ≡ Ok (pos 1)
sign_of_a_positive = refl

-- ÷1
reciprocal_of_one : monadic_number Divide (pos 1) ≡ Ok (pos 1)
reciprocal_of_one = refl

-- ÷¯1
reciprocal_of_minus_one : monadic_number Divide (negsuc 0) ≡ Ok (negsuc 0)
reciprocal_of_minus_one = refl

-- ÷2
reciprocal_of_two : monadic_number Divide (pos 2) ≡ Err Domain
reciprocal_of_two = refl

-- ÷0
reciprocal_of_zero : monadic_number Divide (pos 0) ≡ Err Domain
reciprocal_of_zero = refl

-- |¯7
magnitude : monadic_number Stile (negsuc 6) ≡ Ok (pos 7)
magnitude = refl

-- |¯9223372036854775808
magnitude_of_the_least : monadic_number Stile (neg_ℤ (pos 9223372036854775808)) ≡ Err Limit
magnitude_of_the_least = refl

-- !5
factorial_of_five : monadic_number Bang (pos 5) ≡ Ok (pos 120)
factorial_of_five = refl

-- !0
factorial_of_zero : monadic_number Bang (pos 0) ≡ Ok (pos 1)
factorial_of_zero = refl

-- !20
factorial_of_twenty : monadic_number Bang (pos 20) ≡ Ok (pos 2432902008176640000)
factorial_of_twenty = refl

-- !21
factorial_of_twenty_one : monadic_number Bang (pos 21) ≡ Err Limit
factorial_of_twenty_one = refl

-- !¯1
factorial_below_zero : monadic_number Bang (negsuc 0) ≡ Err Domain
factorial_below_zero = refl

-- ⌊¯7
floor_is_the_number : monadic_number Floor (negsuc 6) ≡ Ok (negsuc 6)
floor_is_the_number = refl

-- ⌈¯7
ceiling_is_the_number : monadic_number Ceiling (negsuc 6) ≡ Ok (negsuc 6)
ceiling_is_the_number = refl

-- ~0
not_zero : monadic_number Tilde (pos 0) ≡ Ok (pos 1)
not_zero = refl

-- ~1
not_one : monadic_number Tilde (pos 1) ≡ Ok (pos 0)
not_one = refl

-- ~2
not_two : monadic_number Tilde (pos 2) ≡ Err Domain
not_two = refl

-- -'A'
no_character_is_negated : monadic_of Minus (Chr 65) ≡ Err Domain
no_character_is_negated = refl
