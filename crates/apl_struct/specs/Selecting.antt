-- The places of an argument that the slots of an index choose. No contract of a public function cites this file.
use Rattle.std.specs.Prelude.{◌≡◌, ℕ, pos, ◌/◌, ◌%◌, ◌<◌, ◌≤◌, ◌⊎◌, true, List, [], ◌∷◌, length, Option, Some, None, Result, Ok, Err, slice_index_or}
use Rattle.apl_array.specs.declared.axis.Origin.{Origin}
use Rattle.apl_array.specs.Axes.{from_origin, place_number}
use Rattle.apl_array.specs.Shape.{most_axes, most_elements, count_of, place_of, index_at}
use Rattle.apl_array.specs.Array.{ArrayValue, IsArray}
use Rattle.apl_answer.specs.declared.fault.OpFault.{OpFault}
use Rattle.apl_answer.specs.declared.fault.OpFault.TheVariants.{Memory}
use Rattle.apl_answer.specs.Arguments.{rank_of, numbers_of}
use Rattle.apl_answer.specs.Rows.{Check, first_failure_or}
use Rattle.apl_walk.specs.declared.maps.Map.{Map}
use Rattle.apl_walk.specs.Maps.{extent_of, map_extent, map_step, walked}
use Rattle.apl_walk.specs.Steps.{and_step}
use Rattle.apl_struct.specs.Indexing.{Slots, are_slots_within, selected_shape, select_source}

-- ---- walks

-- the place that a walk from place `start` reaches
abbrev pub reached_from : (start : ℕ) → List Map → (place : ℕ) → Option ℕ
reached_from start maps place = and_step (Some start) (walked maps place)

-- the place that it reaches with one more axis before the others
abbrev pub reached_with : (start : ℕ) → List Map → Map → (place : ℕ) → Option ℕ
reached_with start maps map place = and_step (reached_from start maps place) (map_step map (place / extent_of maps % map_extent map))

-- ---- slots

abbrev pub slot_count : ℕ → Option ArrayValue → ℕ
slot_count n (Some s) = count_of s.shape
slot_count n None = n

abbrev pub slot_index : Origin → Option ArrayValue → ℕ → ℕ
slot_index origin (Some s) i = place_number (from_origin origin (slice_index_or (numbers_of s) i (pos 0)))
slot_index origin None i = i

-- the index list that the slots choose at a place of the selected shape, and its place
abbrev pub chosen_index : Origin → List ℕ → Slots → ℕ → List ℕ
chosen_index origin selected slots place = select_source origin slots (index_at selected place)

abbrev pub chosen_place : Origin → (shape selected : List ℕ) → Slots → ℕ → ℕ
chosen_place origin shape selected slots place = place_of shape (chosen_index origin selected slots place)

-- each slot is an array or empty
abbrev pub AreArrays : Slots → Type 0
AreArrays [] = Unit {0}
AreArrays (Some s ∷ slots) = IsArray s × AreArrays slots
AreArrays (None ∷ slots) = AreArrays slots

-- the slots choose indexes of these axes, and some of each
pub record AreSelectable (origin : Origin) (lengths : List ℕ) (slots : Slots) : Type 0 where
  pub each : length slots ≡ length lengths
  pub within : are_slots_within origin lengths slots ≡ true
  pub few : length lengths ≤ most_axes
  pub some : 0 < count_of lengths
  pub most : count_of lengths ≤ most_elements
  pub selected_some : 0 < count_of (selected_shape lengths slots)
  pub selected_most : count_of (selected_shape lengths slots) ≤ most_elements

-- ---- judging

-- the shape that lawful slots choose
pub record IsSelection (a : ArrayValue) (slots : Slots) (origin : Origin) (shape : List ℕ) : Type 0 where
  pub shape_is : shape ≡ selected_shape a.shape slots
  pub each : length slots ≡ rank_of a
  pub arrays : AreArrays slots
  pub within : are_slots_within origin a.shape slots ≡ true

-- a value where each check holds, else the refusal of the first that fails, or that memory ran out
abbrev pub IsCheckedResult : {T : Type 0} → List Check → (T → Type 0) → Result T OpFault → Type 0
IsCheckedResult checks P (Ok value) = P value × ((answer : Result ArrayValue OpFault) → first_failure_or checks answer ≡ answer)
IsCheckedResult checks P (Err fault) = ((answer : Result ArrayValue OpFault) → first_failure_or checks answer ≡ Err fault) ⊎ (fault ≡ Memory)
