-- Items that are folded, numbers or faults, by their places. No contract of a public function cites this file.
use Rattle.std.specs.Prelude.{◌≡◌, ℕ, zero, suc, ℤ, pos, ◌+◌, ◌<◌, ◌/◌, ◌%◌, List, length, map, Option, Some, None, Result, Ok, Err, slice_index_or}
use Rattle.std.specs.List.{range_with_len}
use Rattle.apl_array.specs.declared.array.Elem.{Elem}
use Rattle.apl_array.specs.declared.array.Elem.TheVariants.{Int}
use Rattle.apl_array.specs.declared.function.ScalarFunction.{ScalarFunction}
use Rattle.apl_pool.specs.declared.kernel.Fault.{Fault}
use Rattle.apl_answer.specs.Arguments.{number_of}
use Rattle.apl_answer.specs.Pointwise.{collect_outcomes}
use Rattle.apl_scalar.specs.Scalar.{dyadic_of, dyadic_numbers, as_element}
use Rattle.apl_reduce.specs.Products.{judged_reduction}

abbrev pub item_in : List Elem → ℕ → Elem
item_in elements place = slice_index_or elements place (Int (pos 0))

-- a function of an element of one list and an element of another, the right one varying fastest
abbrev pub outer_number : ScalarFunction → List Elem → List Elem → ℕ → Result ℤ Fault
outer_number f left right place = dyadic_of f (item_in left (place / length right)) (item_in right (place % length right))

-- a function of one element and element k of others
abbrev pub pair_number : ScalarFunction → Elem → List Elem → ℕ → Result ℤ Fault
pair_number f x others k = dyadic_of f x (item_in others k)

-- from a place on, `count` places of the outer product have one left element, with others one by one
abbrev pub IsOuterRun : List Elem → List Elem → (from count : ℕ) → Elem → List Elem → Type 0
IsOuterRun left right from count x others = (f : ScalarFunction) (k : ℕ) → k < count → outer_number f left right (from + k) ≡ pair_number f x others k

-- the number that an element is, or the fault
abbrev pub as_number : Result Elem Fault → Result ℤ Fault
as_number (Ok x) = Ok (number_of x)
as_number (Err fault) = Err fault

-- ---- items by their places

-- x and what was folded on its right; a fault on the right comes first
abbrev pub number_step : ScalarFunction → Result ℤ Fault → Result ℤ Fault → Result ℤ Fault
number_step f x (Err fault) = Err fault
number_step f (Err fault) (Ok r) = Err fault
number_step f (Ok x) (Ok r) = dyadic_numbers f x r

abbrev pub or_next_fault : Result ℤ Fault → Option Fault → Option Fault
or_next_fault (Err fault) next = Some fault
or_next_fault (Ok z) next = next

module _ (item : ℕ → Result ℤ Fault) where
  -- the fold of item k and the `more` items after it, from the right: the first fault on the way
  abbrev pub folded_from : ScalarFunction → ℕ → ℕ → Result ℤ Fault
  folded_from f k zero = item k
  folded_from f k (suc more) = number_step f (item k) (folded_from f (k + 1) more)

  -- the fault of the first faulty one of n items, item k being the first of them
  abbrev pub first_fault : ℕ → ℕ → Option Fault
  first_fault k zero = None
  first_fault k (suc n) = or_next_fault (item k) (first_fault (k + 1) n)

  -- the reduction of n items, all of them judged before the fold
  abbrev pub judged_items : ScalarFunction → ℕ → Result Elem Fault
  judged_items f n = judged_reduction f (collect_outcomes (map (λ k. as_element (item k)) (range_with_len 0 n)))
