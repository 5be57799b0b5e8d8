-- A[I;..] and A[I;..]←B.
use Rattle.std.specs.Prelude.{ℕ, zero, suc, ◌==◌, List, [], ◌∷◌, ◌++◌, length, take, drop, Bool, true, ◌&&◌, ◌||◌, not, Option, Some, None, if◌then◌else◌, slice_index}
use Rattle.std.specs.List.{list_all}
use Rattle.apl_array.specs.declared.array.Elem.{Elem}
use Rattle.apl_array.specs.declared.axis.Origin.{Origin}
use Rattle.apl_array.specs.Axes.{from_origin, place_number, is_below}
use Rattle.apl_array.specs.Shape.{is_shape, count_of, index_at}
use Rattle.apl_array.specs.Array.{ArrayValue, element_in, element_at}
use Rattle.apl_answer.specs.declared.fault.OpFault.TheVariants.{Rank, Length, Index, Domain, Limit}
use Rattle.apl_answer.specs.Arguments.{rank_of, has_elements, has_one_element, is_numbers, is_same_kind, is_same_shape, number_of, numbers_of, only_element}
use Rattle.apl_answer.specs.Rows.{Row, Check, array_row}
use Rattle.apl_struct.specs.Gathering.{gathered_row}

-- the indexes along each axis, of which an empty slot chooses all
abbrev pub Slots : Type 0
Slots = List (Option ArrayValue)

abbrev pub is_slot_of_numbers : Option ArrayValue → Bool
is_slot_of_numbers (Some s) = is_numbers s
is_slot_of_numbers None = true

-- each number less the origin is an index of an axis of length n
abbrev pub is_slot_within : Origin → ℕ → Option ArrayValue → Bool
is_slot_within origin n (Some s) = list_all (λ number. is_below n (from_origin origin number)) (numbers_of s)
is_slot_within origin n None = true

abbrev pub are_slots_within : Origin → List ℕ → Slots → Bool
are_slots_within origin (n ∷ ns) (s ∷ slots) = is_slot_within origin n s && are_slots_within origin ns slots
are_slots_within origin _ _ = true

abbrev pub slot_shape : ℕ → Option ArrayValue → List ℕ
slot_shape n (Some s) = s.shape
slot_shape n None = n ∷ []

-- the shapes of the slots, one after the other
abbrev pub selected_shape : List ℕ → Slots → List ℕ
selected_shape (n ∷ ns) (s ∷ slots) = slot_shape n s ++ selected_shape ns slots
selected_shape _ _ = []

-- the index list in A that the slots choose, each by its own part of the result's index list
abbrev pub select_source : Origin → Slots → List ℕ → List ℕ
select_source origin [] index = []
select_source origin (Some s ∷ slots) index =
    place_number (from_origin origin (number_of (element_at s (take (rank_of s) index)))) ∷ select_source origin slots (drop (rank_of s) index)
select_source origin (None ∷ slots) index = slice_index index 0 ∷ select_source origin slots (drop 1 index)

abbrev pub selection_checks : ArrayValue → Slots → Origin → List Check
selection_checks a slots origin =
    (length slots == rank_of a, Rank) ∷ (list_all is_slot_of_numbers slots, Domain) ∷ (are_slots_within origin a.shape slots, Index)
    ∷ (is_shape (selected_shape a.shape slots), Limit) ∷ []

-- A[I;..]
abbrev pub select_row : ArrayValue → Slots → Origin → Row
select_row a slots origin =
    gathered_row (selection_checks a slots origin) (selected_shape a.shape slots) a (select_source origin slots)

-- the last of the first n places of the selected shape that chooses this index list
abbrev pub last_choice : Origin → Slots → (selected index : List ℕ) (n : ℕ) → Option ℕ
last_choice origin slots selected index zero = None
last_choice origin slots selected index (suc place) =
    if is_same_shape (select_source origin slots (index_at selected place)) index then Some place
    else last_choice origin slots selected index place

-- B's element at that place, where B's only element serves all places, and A's own where no place chooses it
abbrev pub replaced_element : ArrayValue → ArrayValue → List ℕ → Option ℕ → Elem
replaced_element a b index (Some place) = if has_one_element b.shape then only_element b else element_in b place
replaced_element a b index None = element_at a index

-- A[I;..]←B: of an index list that is chosen twice the later choice stays
abbrev pub replace_row : ArrayValue → Slots → ArrayValue → Origin → Row
replace_row a slots b origin =
    let selected = selected_shape a.shape slots in
    array_row
    (selection_checks a slots origin ++ (has_one_element b.shape || (rank_of b == length selected), Rank)
    ∷ (has_one_element b.shape || is_same_shape b.shape selected, Length) ∷ (not (has_elements b) || is_same_kind a.kind b.kind, Domain) ∷ [])
    a.shape a.kind
    (λ index. replaced_element a b index (last_choice origin slots selected index (count_of selected)))
