-- The rule of a board: what holds, between any two steps, of its two words and of the views of all its seats.
use Rattle.std.specs.Prelude.{◌≡◌, ℕ, ◌+◌, ◌<◌, ◌≤◌, ◌⊎◌, ◌∷◌, ◌^◌, min, true, false, List, [], length, slice_index}
use mathlib.Core.Option.{some}
use lib.ListN.{get_elem?}
use Rattle.atomic_table.specs.Table.{State}
use Rattle.apl_board.specs.declared.view.View.{View}
use Rattle.apl_board.specs.declared.view.Extent.{Extent}
use Rattle.apl_board.specs.declared.view.TheConstants.{NEXT, LEAST, NOWHERE, MOST_SHARES}
use Rattle.apl_board.specs.View.{times, once_below, blank}

-- two words, no slot, and the views of all seats
abbrev pub BoardState : Type 0
BoardState = State (Unit {0}) View

-- the next number
abbrev pub next_of : BoardState → ℕ
next_of s = slice_index s.words NEXT

-- the least place that was reported, or `NOWHERE`
abbrev pub least_of : BoardState → ℕ
least_of s = slice_index s.words LEAST

-- f of each view, added up
abbrev pub total : (View → ℕ) → List View → ℕ
total f [] = 0
total f (v ∷ vs) = f v + total f vs

-- how often x was given by all seats together
abbrev pub given_in : ℕ → List View → ℕ
given_in x views = total (λ v. times x v.given) views

-- how often x was reported by all seats together
abbrev pub reported_in : ℕ → List View → ℕ
reported_in x views = total (λ v. times x v.reported) views

-- how often x was seen by all seats together
abbrev pub seen_in : ℕ → List View → ℕ
seen_in x views = total (λ v. times x v.seen) views

-- what holds of one seat, if this is the next number
pub record IsLawfulSeat (extent : Extent) (next : ℕ) (v : View) : Type 0 where
  -- a seat learns of the end only when no piece is left
  pub told : v.told ≡ true → extent.pieces ≤ next
  -- it makes no step past the end before it learns of it, and at most as many as its share
  pub few_past : v.past ≤ v.share
  pub none_past : v.told ≡ false → v.past ≡ 0
  -- one with no share is spent
  pub spent : v.share ≡ 0 → (v.given ≡ []) × (v.reported ≡ []) × (v.seen ≡ [])

-- the next number, and what was given
pub record NumbersAreLawful (extent : Extent) (next : ℕ) (views : List View) : Type 0 where
  -- the shares add up to the seats
  pub shares : total (λ v. v.share) views ≡ extent.seats
  pub each : (id : ℕ) (v : View) → get_elem? views id ≡ some v → IsLawfulSeat extent next v
  -- each number below the next one and below the pieces was given once, and no other
  pub once : (x : ℕ) → given_in x views ≡ once_below x (min next extent.pieces)
  -- the next number passes the pieces by no more than the steps past the end
  pub passed : next ≤ extent.pieces + total (λ v. v.past) views

-- the least place, and what was reported and seen
pub record PlacesAreLawful (least : ℕ) (views : List View) : Type 0 where
  -- it is the least of all that were reported
  pub below : (x : ℕ) → 0 < reported_in x views → (least ≤ x) × (x < NOWHERE)
  pub reported : (least ≡ NOWHERE) ⊎ (0 < reported_in least views)
  -- what a seat saw was reported
  pub seen : (x : ℕ) → 0 < seen_in x views → 0 < reported_in x views

-- the rule: of a board's numbers and of its places
pub record IsLawfulBoard (extent : Extent) (s : BoardState) : Type 0 where
  pub small : (extent.pieces < 2 ^ 32) × (extent.seats ≤ MOST_SHARES)
  pub two : length s.words ≡ 2
  pub numbers : NumbersAreLawful extent (next_of s) s.views
  pub places : PlacesAreLawful (least_of s) s.views

-- the view of the first seat
abbrev pub first_view : Extent → View
first_view extent = blank extent.pieces extent.seats extent.seats
