-- The choice that stays at a place. No contract of a public function cites this file.
use Rattle.std.specs.Prelude.{◌≡◌, ℕ, zero, suc, ◌+◌, ◌*◌, ◌<◌, ◌==◌, ◌||◌, true, not, List, [], ◌∷◌, length, Option, Some, None, if◌then◌else◌, slice_index_or}
use Rattle.apl_array.specs.declared.array.Elem.{Elem}
use Rattle.apl_array.specs.Shape.{count_of}
use Rattle.apl_array.specs.Array.{ArrayValue}
use Rattle.apl_answer.specs.Arguments.{fill_of, rank_of, has_elements, has_one_element, is_same_kind, is_same_shape}
use Rattle.apl_answer.specs.declared.fault.OpFault.TheVariants.{Rank, Length, Domain}
use Rattle.apl_answer.specs.Rows.{Check}
use Rattle.apl_walk.specs.declared.maps.Map.{Map}
use Rattle.apl_walk.specs.Maps.{extent_of, walked}

-- the place that a walk reaches, and 0 where it reaches none
abbrev pub place_or_zero : Option ℕ → ℕ
place_or_zero (Some place) = place
place_or_zero None = 0

-- it reaches a place below n
abbrev pub IsReached : ℕ → Option ℕ → Type 0
IsReached n (Some place) = place < n
IsReached n None = ⊥

-- of the first n choices the last that is of place p: the number of its value from 1, or 0 for none. The values of
-- neighbouring choices are `step` apart
abbrev pub last_number : (choice : ℕ → ℕ) (step p n : ℕ) → ℕ
last_number choice step p zero = 0
last_number choice step p (suc n) = if choice n == p then n * step + 1 else last_number choice step p n

-- the value of that number, and the element at the place for 0
abbrev pub value_numbered : {T : Type 0} (elements values : List T) (fill : T) (number place : ℕ) → T
value_numbered elements values fill zero place = slice_index_or elements place fill
value_numbered elements values fill (suc number) place = slice_index_or values number fill

abbrev pub element_numbered : (a b : ArrayValue) (number place : ℕ) → Elem
element_numbered a b number place = value_numbered a.ravel b.ravel (fill_of a.kind) number place

-- what is asked of the values, and of their kind
abbrev pub replacement_checks : (a b : ArrayValue) (selected : List ℕ) → List Check
replacement_checks a b selected =
    (has_one_element b.shape || (rank_of b == length selected), Rank) ∷ (has_one_element b.shape || is_same_shape b.shape selected, Length)
    ∷ (not (has_elements b) || is_same_kind a.kind b.kind, Domain) ∷ []

-- how far apart the values of neighbouring choices are
abbrev pub value_step : ArrayValue → ℕ
value_step b = if has_one_element b.shape then 0 else 1

-- values that fit in the place of the chosen ones: one for each, or one for all
pub record IsReplacement (a b : ArrayValue) (selected : List ℕ) : Type 0 where
  pub each : (has_one_element b.shape || is_same_shape b.shape selected) ≡ true
  pub kind : 0 < count_of b.shape → a.kind ≡ b.kind

-- ---- a list that is written over

-- each place that is chosen along these axes is below n
abbrev pub AreWithin : ℕ → List Map → Type 0
AreWithin n maps = (choice : ℕ) → choice < extent_of maps → IsReached n (walked maps choice)

-- the place of a choice
abbrev pub chosen_at : List Map → ℕ → ℕ
chosen_at maps choice = place_or_zero (walked maps choice)

-- the number of the value that stays at a place, after all choices
abbrev pub number_at : List Map → (step place : ℕ) → ℕ
number_at maps step place = last_number (chosen_at maps) step place (extent_of maps)

-- at each of the first `count` places there is the value of the last of n choices of it, and else its own element
abbrev pub HaveValues : {T : Type 0} → (choice : ℕ → ℕ) (step n : ℕ) (elements values : List T) (fill : T) (count : ℕ) (room : List T) → Type 0
HaveValues choice step n elements values fill count room = (p : ℕ) → p < count → slice_index_or room p fill ≡ value_numbered elements values fill (last_number choice step p n) p

-- a list with the values of `extent` more choices, from the choice `from` on
abbrev pub AreWrittenOver : {T : Type 0} → (chosen : ℕ → ℕ) (extent from step : ℕ) (values : List T) (fill : T) (old new : List T) → Type 0
AreWrittenOver {T} chosen extent from step values fill old new = (choice : ℕ → ℕ) (elements : List T) → ((i : ℕ) → i < extent → chosen i ≡ choice (from + i))
    → HaveValues choice step from elements values fill (length old) old → HaveValues choice step (from + extent) elements values fill (length old) new

-- the same where the choices of a line up to before `end` are written, and those before `first` were before
abbrev pub AreWrittenUpTo : {T : Type 0} → (chosen : ℕ → ℕ) (extent from first end step : ℕ) (values : List T) (fill : T) (old new : List T) → Type 0
AreWrittenUpTo {T} chosen extent from first end step values fill old new = (choice : ℕ → ℕ) (elements : List T) → ((i : ℕ) → i < extent → chosen i ≡ choice (from + i))
    → HaveValues choice step (from + first) elements values fill (length old) old → HaveValues choice step (from + end) elements values fill (length old) new
