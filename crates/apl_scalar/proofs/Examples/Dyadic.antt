-- Worked examples of the scalar functions of two numbers, the rows of the table in order.
use Rattle.std.proofs.Common.{◌≡◌, pos, negsuc, neg_ℤ, Ok, Err, refl}
use Rattle.apl_pool.specs.declared.kernel.Fault.TheVariants.{Domain, Limit}
use Rattle.apl_array.specs.declared.array.Elem.TheVariants.{Int, Chr}
use Rattle.apl_array.specs.declared.function.ScalarFunction.TheVariants.{Plus, Minus, Times, Divide, Stile, Star, Bang, Floor, Ceiling, And, Or, Nand, Nor, Less, LessOrEqual, Equal, GreaterOrEqual, Greater, NotEqual}
use Rattle.apl_scalar.specs.Scalar.{dyadic_numbers, dyadic_of}

-- 2+3
sum : dyadic_numbers Plus (pos 2) (pos 3) ≡ Ok (pos 5)
sum = refl

-- 9223372036854775806+1
sum_up_to_the_greatest : dyadic_numbers Plus (pos 9223372036854775806) (pos 1) ≡ Ok (pos 9223372036854775807)
sum_up_to_the_greatest = refl

-- 9223372036854775807+1
sum_past_the_greatest : dyadic_numbers Plus (pos 9223372036854775807) (pos 1) ≡ Err Limit
sum_past_the_greatest = refl

-- 4-3
difference : dyadic_numbers Minus (pos 4) (pos 3) ≡ Ok (pos 1)
difference = refl

-- ¯9223372036854775807-1
difference_down_to_the_least : dyadic_numbers Minus (neg_ℤ (pos 9223372036854775807)) (pos 1) ≡ Ok (neg_ℤ (pos 9223372036854775808))
difference_down_to_the_least = refl

-- ¯9223372036854775808-1
difference_past_the_least : dyadic_numbers Minus (neg_ℤ (pos 9223372036854775808)) (pos 1) ≡ Err Limit
difference_past_the_least = refl

-- ¯3×4
product : dyadic_numbers Times (negsuc 2) (pos 4) ≡ Ok (negsuc 11)
product = refl

-- ¯4611686018427387904×2
product_down_to_the_least : dyadic_numbers Times (neg_ℤ (pos 4611686018427387904)) (pos 2) ≡ Ok (neg_ℤ (pos 9223372036854775808))
product_down_to_the_least = refl

-- 4611686018427387904×2
product_past_the_greatest : dyadic_numbers Times (pos 4611686018427387904) (pos 2) ≡ Err Limit
product_past_the_greatest = refl

-- ¯12÷4
quotient : dyadic_numbers Divide (negsuc 11) (pos 4) ≡ Ok (negsuc 2)
quotient = refl

-- 7÷2
quotient_not_whole : dyadic_numbers Divide (pos 7) (pos 2) ≡ Err Domain
quotient_not_whole = refl

-- 0÷0
zero_by_zero : dyadic_numbers Divide (pos 0) (pos 0) ≡ Ok (pos 1)
zero_by_zero = refl

-- 1÷0
one_by_zero : dyadic_numbers Divide (pos 1) (pos 0) ≡ Err Domain
one_by_zero = refl

-- ¯9223372036854775808÷¯1
least_by_minus_one : dyadic_numbers Divide (neg_ℤ (pos 9223372036854775808)) (negsuc 0) ≡ Err Limit
least_by_minus_one = refl

-- 3|7
residue : dyadic_numbers Stile (pos 3) (pos 7) ≡ Ok (pos 1)
residue = refl

-- 3|¯7
residue_of_a_negative : dyadic_numbers Stile (pos 3) (negsuc 6) ≡ Ok (pos 2)
residue_of_a_negative = refl

-- ¯3|7
residue_by_a_negative : dyadic_numbers Stile (negsuc 2) (pos 7) ≡ Ok (negsuc 1)
residue_by_a_negative = refl

-- 0|¯5
residue_by_zero : dyadic_numbers Stile (pos 0) (negsuc 4) ≡ Ok (negsuc 4)
residue_by_zero = refl

-- ¯1|¯9223372036854775808
residue_by_minus_one : dyadic_numbers Stile (negsuc 0) (neg_ℤ (pos 9223372036854775808)) ≡ Ok (pos 0)
residue_by_minus_one = refl

-- 2*10
power : dyadic_numbers Star (pos 2) (pos 10) ≡ Ok (pos 1024)
power = refl

-- 0*0
zero_to_the_zero : dyadic_numbers Star (pos 0) (pos 0) ≡ Ok (pos 1)
zero_to_the_zero = refl

-- 2*63
power_past_the_greatest : dyadic_numbers Star (pos 2) (pos 63) ≡ Err Limit
power_past_the_greatest = refl

-- ¯2*63
power_down_to_the_least : dyadic_numbers Star (negsuc 1) (pos 63) ≡ Ok (neg_ℤ (pos 9223372036854775808))
power_down_to_the_least = refl

-- 1*¯5
one_to_a_negative : dyadic_numbers Star (pos 1) (negsuc 4) ≡ Ok (pos 1)
one_to_a_negative = refl

-- ¯1*¯3
minus_one_to_an_odd_negative : dyadic_numbers Star (negsuc 0) (negsuc 2) ≡ Ok (negsuc 0)
minus_one_to_an_odd_negative = refl

-- ¯1*¯2
minus_one_to_an_even_negative : dyadic_numbers Star (negsuc 0) (negsuc 1) ≡ Ok (pos 1)
minus_one_to_an_even_negative = refl

-- 2*¯1
two_to_a_negative : dyadic_numbers Star (pos 2) (negsuc 0) ≡ Err Domain
two_to_a_negative = refl

-- 2!5
two_of_five : dyadic_numbers Bang (pos 2) (pos 5) ≡ Ok (pos 10)
two_of_five = refl

-- 0!5
none_of_five : dyadic_numbers Bang (pos 0) (pos 5) ≡ Ok (pos 1)
none_of_five = refl

-- 6!5
six_of_five : dyadic_numbers Bang (pos 6) (pos 5) ≡ Ok (pos 0)
six_of_five = refl

-- 2!¯5
of_less_than_none : dyadic_numbers Bang (pos 2) (negsuc 4) ≡ Err Domain
of_less_than_none = refl

-- ¯1!5
less_than_none_of_five : dyadic_numbers Bang (negsuc 0) (pos 5) ≡ Err Domain
less_than_none_of_five = refl

-- 30!60
thirty_of_sixty : dyadic_numbers Bang (pos 30) (pos 60) ≡ Ok (pos 118264581564861424)
thirty_of_sixty = refl

-- 35!70
thirty_five_of_seventy : dyadic_numbers Bang (pos 35) (pos 70) ≡ Err Limit
thirty_five_of_seventy = refl

-- 3⌊¯7
lesser : dyadic_numbers Floor (pos 3) (negsuc 6) ≡ Ok (negsuc 6)
lesser = refl

-- 3⌈¯7
greater : dyadic_numbers Ceiling (pos 3) (negsuc 6) ≡ Ok (pos 3)
greater = refl

-- 1∧1
and_of_ones : dyadic_numbers And (pos 1) (pos 1) ≡ Ok (pos 1)
and_of_ones = refl

-- 1∧0
and_with_zero : dyadic_numbers And (pos 1) (pos 0) ≡ Ok (pos 0)
and_with_zero = refl

-- 0∧2
and_with_two : dyadic_numbers And (pos 0) (pos 2) ≡ Err Domain
and_with_two = refl

-- 0∨0
or_of_zeros : dyadic_numbers Or (pos 0) (pos 0) ≡ Ok (pos 0)
or_of_zeros = refl

-- 1∨0
or_with_one : dyadic_numbers Or (pos 1) (pos 0) ≡ Ok (pos 1)
or_with_one = refl

-- 1∨2
or_with_two : dyadic_numbers Or (pos 1) (pos 2) ≡ Err Domain
or_with_two = refl

-- 1⍲1
nand_of_ones : dyadic_numbers Nand (pos 1) (pos 1) ≡ Ok (pos 0)
nand_of_ones = refl

-- 1⍲0
nand_with_zero : dyadic_numbers Nand (pos 1) (pos 0) ≡ Ok (pos 1)
nand_with_zero = refl

-- 2⍲0
nand_with_two : dyadic_numbers Nand (pos 2) (pos 0) ≡ Err Domain
nand_with_two = refl

-- 0⍱0
nor_of_zeros : dyadic_numbers Nor (pos 0) (pos 0) ≡ Ok (pos 1)
nor_of_zeros = refl

-- 1⍱0
nor_with_one : dyadic_numbers Nor (pos 1) (pos 0) ≡ Ok (pos 0)
nor_with_one = refl

-- 2⍱1
nor_with_two : dyadic_numbers Nor (pos 2) (pos 1) ≡ Err Domain
nor_with_two = refl

-- ¯1<0
less_than : dyadic_numbers Less (negsuc 0) (pos 0) ≡ Ok (pos 1)
less_than = refl

-- 3<3
less_than_itself : dyadic_numbers Less (pos 3) (pos 3) ≡ Ok (pos 0)
less_than_itself = refl

-- 3≤3
at_most_itself : dyadic_numbers LessOrEqual (pos 3) (pos 3) ≡ Ok (pos 1)
at_most_itself = refl

-- 3≤2
at_most_less : dyadic_numbers LessOrEqual (pos 3) (pos 2) ≡ Ok (pos 0)
at_most_less = refl

-- ¯3=¯3
equal_to_itself : dyadic_numbers Equal (negsuc 2) (negsuc 2) ≡ Ok (pos 1)
equal_to_itself = refl

-- ¯3=3
equal_to_another : dyadic_numbers Equal (negsuc 2) (pos 3) ≡ Ok (pos 0)
equal_to_another = refl

-- 3≥3
at_least_itself : dyadic_numbers GreaterOrEqual (pos 3) (pos 3) ≡ Ok (pos 1)
at_least_itself = refl

-- 2≥3
at_least_more : dyadic_numbers GreaterOrEqual (pos 2) (pos 3) ≡ Ok (pos 0)
at_least_more = refl

-- 0>¯1
greater_than : dyadic_numbers Greater (pos 0) (negsuc 0) ≡ Ok (pos 1)
greater_than = refl

-- 3>3
greater_than_itself : dyadic_numbers Greater (pos 3) (pos 3) ≡ Ok (pos 0)
greater_than_itself = refl

-- 3≠3
different_from_itself : dyadic_numbers NotEqual (pos 3) (pos 3) ≡ Ok (pos 0)
different_from_itself = refl

-- ¯3≠3
different_from_another : dyadic_numbers NotEqual (negsuc 2) (pos 3) ≡ Ok (pos 1)
different_from_another = refl

-- 'A'='A'
same_character : dyadic_of Equal (Chr 65) (Chr 65) ≡ Ok (pos 1)
same_character = refl

-- '1'≠1
character_is_no_number : dyadic_of NotEqual (Chr 49) (Int (pos 1)) ≡ Ok (pos 1)
character_is_no_number = refl

-- 'A'<'B'
characters_have_no_order : dyadic_of Less (Chr 65) (Chr 66) ≡ Err Domain
characters_have_no_order = refl
