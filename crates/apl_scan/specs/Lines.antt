-- Numbers along an axis, folded up to a place of the ravel. No contract of a public function cites this file.
use Rattle.std.specs.Prelude.{ℕ, zero, suc, ℤ, pos, ◌+◌, ◌-◌, ◌*◌, ◌/◌, ◌%◌, List, Result, Ok, slice_index_or}
use Rattle.apl_pool.specs.Summaries.{and_then}
use Rattle.apl_pool.specs.declared.kernel.Fault.{Fault}

-- the right fold of number j and the `more` numbers after it. One number is answered untested
abbrev pub folded : (ℤ → ℤ → Result ℤ Fault) → (number : ℕ → ℤ) → (j more : ℕ) → Result ℤ Fault
folded step number j zero = Ok (number j)
folded step number j (suc more) = and_then (folded step number (suc j) more) (step (number j))

-- numbers that are `stride` apart from place `first` on
abbrev pub number_along : List ℤ → (first stride : ℕ) → ℕ → ℤ
number_along numbers first stride j = slice_index_or numbers (first + j * stride) (pos 0)

-- how many numbers of its line are before a place: a line has `items` of them, `inner` apart
abbrev pub numbers_before : (items inner place : ℕ) → ℕ
numbers_before items inner place = place / inner % items

-- the fold of a place's line up to the place
abbrev pub scan_at : (ℤ → ℤ → Result ℤ Fault) → List ℤ → (items inner place : ℕ) → Result ℤ Fault
scan_at step numbers items inner place =
    let before = numbers_before items inner place in
    folded step (number_along numbers (place - before * inner) inner) 0 before
