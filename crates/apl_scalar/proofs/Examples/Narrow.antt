-- Worked examples of residues in 32 bits.
use Rattle.std.proofs.Common.{◌≡◌, pos, neg_ℤ, true, false, Ok, refl}
use Rattle.std.specs.Int.{int_wrap}
use Rattle.apl_scalar.specs.Scalar.{has_narrow_residues, narrow_outcome}

-- 2147483648|B has the residues 0 to 2147483647
by_the_greatest : has_narrow_residues (pos 2147483648) ≡ true
by_the_greatest = refl

-- 2147483649|B can be 2147483648
by_one_more : has_narrow_residues (pos 2147483649) ≡ false
by_one_more = refl

-- ¯2147483648|B has the residues ¯2147483647 to 0
by_the_least : has_narrow_residues (neg_ℤ (pos 2147483648)) ≡ true
by_the_least = refl

-- ¯2147483649|B can be ¯2147483648, which 32 bits would hold too
by_one_less : has_narrow_residues (neg_ℤ (pos 2147483649)) ≡ false
by_one_less = refl

-- 0|B is B
by_zero : has_narrow_residues (pos 0) ≡ false
by_zero = refl

-- 32 bits hold 2147483647 and ¯2147483648
greatest_stays : narrow_outcome (Ok (pos 2147483647)) ≡ Ok (pos 2147483647)
unfolding int_wrap
greatest_stays = refl

least_stays : narrow_outcome (Ok (neg_ℤ (pos 2147483648))) ≡ Ok (neg_ℤ (pos 2147483648))
unfolding int_wrap
least_stays = refl

-- 2147483648 is 2 to the 32 more than ¯2147483648
one_more_wraps : narrow_outcome (Ok (pos 2147483648)) ≡ Ok (neg_ℤ (pos 2147483648))
unfolding int_wrap
one_more_wraps = refl
