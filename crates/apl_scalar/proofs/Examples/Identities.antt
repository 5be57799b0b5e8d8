-- The identities of the dyadic functions, the rows of the table in order.
use Rattle.std.proofs.Common.{◌≡◌, pos, neg_ℤ, Some, None, refl}
use Rattle.apl_array.specs.declared.function.ScalarFunction.TheVariants.{Plus, Minus, Times, Divide, Stile, Star, Bang, Floor, Ceiling, And, Or, Nand, Nor, Less, LessOrEqual, Equal, GreaterOrEqual, Greater, NotEqual}
use Rattle.apl_scalar.specs.Scalar.{identity_of}

plus_identity : identity_of Plus ≡ Some (pos 0)
plus_identity = refl

minus_identity : identity_of Minus ≡ Some (pos 0)
minus_identity = refl

times_identity : identity_of Times ≡ Some (pos 1)
times_identity = refl

divide_identity : identity_of Divide ≡ Some (pos 1)
divide_identity = refl

stile_identity : identity_of Stile ≡ Some (pos 0)
stile_identity = refl

star_identity : identity_of Star ≡ Some (pos 1)
star_identity = refl

bang_identity : identity_of Bang ≡ Some (pos 1)
bang_identity = refl

floor_identity : identity_of Floor ≡ Some (pos 9223372036854775807)
floor_identity = refl

ceiling_identity : identity_of Ceiling ≡ Some (neg_ℤ (pos 9223372036854775808))
ceiling_identity = refl

and_identity : identity_of And ≡ Some (pos 1)
and_identity = refl

or_identity : identity_of Or ≡ Some (pos 0)
or_identity = refl

nand_identity : identity_of Nand ≡ None
nand_identity = refl

nor_identity : identity_of Nor ≡ None
nor_identity = refl

less_identity : identity_of Less ≡ Some (pos 0)
less_identity = refl

less_or_equal_identity : identity_of LessOrEqual ≡ Some (pos 1)
less_or_equal_identity = refl

equal_identity : identity_of Equal ≡ Some (pos 1)
equal_identity = refl

greater_or_equal_identity : identity_of GreaterOrEqual ≡ Some (pos 1)
greater_or_equal_identity = refl

greater_identity : identity_of Greater ≡ Some (pos 0)
greater_identity = refl

not_equal_identity : identity_of NotEqual ≡ Some (pos 0)
not_equal_identity = refl
