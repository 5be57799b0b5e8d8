-- The folds of the ends of a list of numbers, in exact numbers.
use Rattle.std.specs.Prelude.{ℤ, ◌+ℤ◌, ◌-ℤ◌, ◌*ℤ◌, List, [], ◌∷◌, Option, Some, None, Result, Ok, Err, if◌then◌else◌}
use Rattle.std.specs.List.{list_all}
use Rattle.apl_array.specs.declared.array.Elem.{Elem}
use Rattle.apl_array.specs.declared.array.Elem.TheVariants.{Int}
use Rattle.apl_array.specs.declared.function.ScalarFunction.{ScalarFunction}
use Rattle.apl_array.specs.declared.function.ScalarFunction.TheVariants.{Plus, Minus, Times}
use Rattle.apl_array.specs.Range.{in_range}
use Rattle.apl_pool.specs.declared.kernel.Fault.{Fault}
use Rattle.apl_pool.specs.declared.kernel.Fault.TheVariants.{Limit}

-- the functions that are defined at all whole numbers, and are refused only past the range
abbrev pub exact_function : ScalarFunction → Option (ℤ → ℤ → ℤ)
exact_function Plus = Some (λ x y. x +ℤ y)
exact_function Minus = Some (λ x y. x -ℤ y)
exact_function Times = Some (λ x y. x *ℤ y)
exact_function _ = None

-- the right fold of x and then the rest
abbrev pub exact_fold : (ℤ → ℤ → ℤ) → ℤ → List ℤ → ℤ
exact_fold f x [] = x
exact_fold f x (y ∷ rest) = f x (exact_fold f y rest)

-- the folds of all ends of the list, the longest first
abbrev pub partial_results : (ℤ → ℤ → ℤ) → ℤ → List ℤ → List ℤ
partial_results f x [] = x ∷ []
partial_results f x (y ∷ rest) = exact_fold f x (y ∷ rest) ∷ partial_results f y rest

-- the fold of all, and Limit if some end's is outside the range
abbrev pub fold_by_partial_results : (ℤ → ℤ → ℤ) → ℤ → List ℤ → Result Elem Fault
fold_by_partial_results f x rest = if list_all in_range (partial_results f x rest) then Ok (Int (exact_fold f x rest)) else Err Limit
