-- The least and the greatest: what that of one item does, and what that of both does.
use Rattle.std.proofs.Common.{◌≡◌, Bool, true, false, ℤ, Ok, refl, ap, subst, arith}
use Rattle.std.proofs.lemmas.Int.{ints, clamps}
use Rattle.apl_pool.specs.Summaries.{IsI64, and_then}
use Rattle.apl_scalar.specs.Scalar.{dyadic_numbers}
use Rattle.apl_summary.specs.declared.extremum.Extremum.{Extremum}
use Rattle.apl_summary.specs.Extremes.{extreme_function, extreme_of_two, extreme_outcome, extremum_of_one, extremum_of_both}

pub two_in_range : (is_least : Bool) (x y : ℤ) → IsI64 x → IsI64 y → IsI64 (extreme_of_two is_least x y)
two_in_range true x y g h = (omega (arith, ints, clamps, g.0, h.0), omega (arith, ints, clamps, g.1, h.1))
two_in_range false x y g h = (omega (arith, ints, clamps, g.0, h.0), omega (arith, ints, clamps, g.1, h.1))

pub joined_in_range : (is_least : Bool) (a b : Extremum) → IsI64 a.item → IsI64 b.item → IsI64 (extremum_of_both is_least a b).item
joined_in_range is_least a b g h = two_in_range is_least a.item b.item g h

pub extreme_in_range : (is_least : Bool) (e : Extremum) (right z : ℤ) → IsI64 e.item → IsI64 right → extreme_outcome is_least e right ≡ Ok z → IsI64 z
extreme_in_range is_least e right z g h o = let same : extreme_of_two is_least e.item right ≡ z = cc in subst IsI64 same (two_in_range is_least e.item right g h)

pub one_is : (is_least : Bool) (x right : ℤ) → extreme_outcome is_least (extremum_of_one x) right ≡ dyadic_numbers (extreme_function is_least) x right
one_is true x right = refl
one_is false x right = refl

pub nested : (is_least : Bool) (x y right : ℤ) → extreme_of_two is_least (extreme_of_two is_least x y) right ≡ extreme_of_two is_least x (extreme_of_two is_least y right)
nested true x y right = omega (arith, ints, clamps)
nested false x y right = omega (arith, ints, clamps)

-- the left items' outcome on what the right ones give
pub joined_outcome : (is_least : Bool) (a b : Extremum) (right : ℤ) → extreme_outcome is_least (extremum_of_both is_least a b) right ≡ and_then (extreme_outcome is_least b right) (extreme_outcome is_least a)
joined_outcome is_least a b right = ap (λ (z : ℤ). Ok z) (nested is_least a.item b.item right)
