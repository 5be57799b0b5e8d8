-- The greatest and the least of numbers. No contract of a public function cites this file.
use Rattle.std.specs.Prelude.{◌≡◌, ℤ, Ok}
use Rattle.apl_array.specs.declared.array.Elem.TheVariants.{Int}
use Rattle.apl_array.specs.declared.function.ScalarFunction.{ScalarFunction}
use Rattle.apl_scalar.specs.Scalar.{dyadic_of}

-- a function of two numbers that is a scalar function, has a value at all numbers, and minds neither their order nor how often one comes
pub record IsExtreme (f : ScalarFunction) (two : ℤ → ℤ → ℤ) : Type 0 where
  pub is : (x y : ℤ) → dyadic_of f (Int x) (Int y) ≡ Ok (two x y)
  pub grouped : (x y z : ℤ) → two x (two y z) ≡ two (two x y) z
  pub turned : (x y : ℤ) → two x y ≡ two y x
  pub alone : (x : ℤ) → two x x ≡ x
