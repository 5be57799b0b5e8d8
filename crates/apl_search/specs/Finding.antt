-- Elements that are found in a list. No contract of a public function cites this file.
use Rattle.std.specs.Prelude.{ℕ, ℤ, pos, ◌+◌, List, Result, Ok, if◌then◌else◌, slice_index_or}
use Rattle.std.specs.List.{list_any, position_or_len}
use Rattle.apl_array.specs.declared.array.Elem.{Elem}
use Rattle.apl_array.specs.declared.array.Elem.TheVariants.{Int}
use Rattle.apl_array.specs.declared.axis.Origin.{Origin}
use Rattle.apl_array.specs.Array.{ArrayValue, element_at}
use Rattle.apl_array.specs.Axes.{origin_number}
use Rattle.apl_pool.specs.declared.kernel.Fault.{Fault}
use Rattle.apl_search.specs.declared.finding.Places.{Places}
use Rattle.apl_search.specs.declared.finding.Places.TheVariants.{InTable, InOrder}
use Rattle.apl_search.specs.Searching.{is_same_element}
use Rattle.apl_search.specs.Ordering.{upwards}
use Rattle.apl_search.specs.Sorting.{AreInOrder}
use Rattle.apl_search.specs.Tables.{IsTable}

abbrev pub element_of : List Elem → ℕ → Elem
element_of elements place = slice_index_or elements place (Int (pos 0))

-- the first place of an element, or the length where there is none
abbrev pub first_place : List Elem → Elem → ℕ
first_place elements x = position_or_len (λ y. is_same_element y x) elements

-- 1 for an element that is in the list, else 0
abbrev pub member_number : List Elem → Elem → ℕ
member_number elements x = if list_any (λ y. is_same_element y x) elements then 1 else 0

-- the outcome at each index list where the list is searched for an array's elements
abbrev pub found_outcome : List Elem → ArrayValue → Origin → List ℕ → Result Elem Fault
found_outcome elements b origin index = Ok (Int (pos (origin_number origin + first_place elements (element_at b index))))

abbrev pub member_outcome : ArrayValue → List Elem → List ℕ → Result Elem Fault
member_outcome a elements index = Ok (Int (pos (member_number elements (element_at a index))))

-- the places of a list's numbers, in a table or in order
abbrev pub ArePlaces : List ℤ → Places → Type 0
ArePlaces numbers (InTable table) = IsTable numbers table.least table.places.items
ArePlaces numbers (InOrder placed) = AreInOrder upwards numbers placed.items
