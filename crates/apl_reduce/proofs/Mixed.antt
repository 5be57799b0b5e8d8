-- A number and a character.
use Rattle.std.proofs.Common.{◌≡◌, false, refl}
use Rattle.apl_array.specs.declared.array.Elem.{Elem}
use Rattle.apl_array.specs.declared.array.Elem.TheVariants.{Int, Chr}
use Rattle.apl_array.specs.declared.function.ScalarFunction.{ScalarFunction}
use Rattle.apl_array.specs.Array.{kind_of}
use Rattle.apl_scalar.specs.Scalar.{compare_elements, dyadic_of}

-- whatever they are, they differ
pub mixed : (f : ScalarFunction) (x y : Elem) → (kind_of x ≡ kind_of y → ⊥) → compare_elements f false ≡ dyadic_of f x y
mixed f (Int x) (Int y) differ = absurd (differ refl)
mixed f (Int x) (Chr d) differ = refl
mixed f (Chr c) (Int y) differ = refl
mixed f (Chr c) (Chr d) differ = absurd (differ refl)
