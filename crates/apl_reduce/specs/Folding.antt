-- The right fold of a list of items by a dyadic scalar function.
use Rattle.std.specs.Prelude.{ℤ, List, [], ◌∷◌, map, Result, Ok, Err, Option, Some, None}
use Rattle.apl_array.specs.declared.array.Elem.{Elem}
use Rattle.apl_array.specs.declared.array.Elem.TheVariants.{Int}
use Rattle.apl_array.specs.declared.function.ScalarFunction.{ScalarFunction}
use Rattle.apl_pool.specs.declared.kernel.Fault.{Fault}
use Rattle.apl_pool.specs.declared.kernel.Fault.TheVariants.{Domain}
use Rattle.apl_scalar.specs.Scalar.{dyadic_of, as_element, identity_of}

-- the function of two elements
abbrev pub pair_of : ScalarFunction → Elem → Elem → Result Elem Fault
pair_of f x y = as_element (dyadic_of f x y)

-- x and what was folded on its right, or the fault of that
abbrev pub fold_step : ScalarFunction → Elem → Result Elem Fault → Result Elem Fault
fold_step f x (Ok r) = pair_of f x r
fold_step f x (Err fault) = Err fault

-- from the right: f(x, f(y, .. z)). One item is answered untested
abbrev pub right_fold : ScalarFunction → Elem → List Elem → Result Elem Fault
right_fold f x [] = Ok x
right_fold f x (y ∷ rest) = fold_step f x (right_fold f y rest)

-- the right fold of numbers
abbrev pub number_fold : ScalarFunction → ℤ → List ℤ → Result Elem Fault
number_fold f x rest = right_fold f (Int x) (map Int rest)

-- the identity of the function, or Domain if there is none
abbrev pub identity_or_fault : Option ℤ → Result Elem Fault
identity_or_fault (Some z) = Ok (Int z)
identity_or_fault None = Err Domain

-- the reduction of the items of one axis, in order
abbrev pub reduction : ScalarFunction → List Elem → Result Elem Fault
reduction f [] = identity_or_fault (identity_of f)
reduction f (x ∷ rest) = right_fold f x rest
