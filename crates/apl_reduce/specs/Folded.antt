-- Two and more items folded to a number. No contract of a public function cites this file.
use Rattle.std.specs.Prelude.{◌≡◌, ℕ, zero, suc, ℤ, pos, ◌+◌, ◌-◌, ◌*◌, ◌/◌, ◌%◌, ◌<◌, List, length, Result, Ok, Err, slice_index_or}
use Rattle.apl_array.specs.declared.array.Elem.{Elem}
use Rattle.apl_array.specs.declared.array.Elem.TheVariants.{Int}
use Rattle.apl_array.specs.declared.function.ScalarFunction.{ScalarFunction}
use Rattle.apl_pool.specs.declared.kernel.Fault.{Fault}
use Rattle.apl_scalar.specs.Scalar.{dyadic_of}

abbrev pub number_step : ScalarFunction → Elem → Result ℤ Fault → Result ℤ Fault
number_step f x (Ok r) = dyadic_of f x (Int r)
number_step f x (Err fault) = Err fault

-- the right fold of item k and the more + 1 items after it
abbrev pub folded : ScalarFunction → (item : ℕ → Elem) → (k more : ℕ) → Result ℤ Fault
folded f item k zero = dyadic_of f (item k) (item (suc k))
folded f item k (suc more) = number_step f (item k) (folded f item (suc k) more)

-- the right fold of n items from item k on, and of what was folded on their right
abbrev pub folded_onto : ScalarFunction → (item : ℕ → Elem) → (k n : ℕ) → Result ℤ Fault → Result ℤ Fault
folded_onto f item k zero total = total
folded_onto f item k (suc n) total = number_step f (item k) (folded_onto f item (suc k) n total)

-- elements that are `stride` apart from place `first` on
abbrev pub element_along : List Elem → (first stride : ℕ) → ℕ → Elem
element_along elements first stride i = slice_index_or elements (first + i * stride) (Int (pos 0))

-- the fold of the items along an axis at a place of the result: neighbours are `inner` apart
abbrev pub fold_at : ScalarFunction → List Elem → (items block inner place : ℕ) → Result ℤ Fault
fold_at f elements items block inner place = folded f (element_along elements (place / inner * block + place % inner) inner) 0 (items - 2)

-- number k along an axis at a place of the result
abbrev pub number_of_axis : List ℤ → (block inner place k : ℕ) → ℤ
number_of_axis numbers block inner place k = slice_index_or numbers (place / inner * block + place % inner + k * inner) (pos 0)

-- the folds of item k and the `more` + 1 items after it, at neighbouring places from `first` on
abbrev pub AreFolds : ScalarFunction → List Elem → (first stride k more : ℕ) → List ℤ → Type 0
AreFolds f elements first stride k more totals =
    (j : ℕ) (d : ℤ) → j < length totals → folded f (element_along elements (first + j) stride) k more ≡ Ok (slice_index_or totals j d)
