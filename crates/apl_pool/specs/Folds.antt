-- What a worker answers for the items at a stretch of places. No contract of a public function cites this file.
use Rattle.std.specs.Prelude.{◌≡◌, ℕ, ◌+◌, ◌*◌, ◌/◌, ◌%◌, ◌<◌, ℤ, List, Bool, true, false, Option, Some, None, Result, Ok, Err, slice_index, slice_index_or}
use Rattle.apl_pool.specs.declared.kernel.Fault.{Fault}
use Rattle.apl_pool.specs.declared.kernel.Stop.{Stop}
use Rattle.apl_pool.specs.Parts.{AreValuesFrom, IsStopFrom}
use Rattle.apl_pool.specs.Summaries.{IsI64, IsSummaryOf}

-- of how many items there is a summary
abbrev pub items_in : {S : Type 0} → (S → ℕ) → Option S → ℕ
items_in item_count (Some s) = item_count s
items_in item_count None = 0

module _ {S X : Type 0} (step : X → ℤ → Result ℤ Fault) (item_count : S → ℕ) (does : S → ℤ → Result ℤ Fault) (outcome : ℕ → Result X Fault) where
  -- a summary of the items at the places from `from` up to before `to`
  pub record IsFoldFrom (from to : ℕ) (s : S) : Type 0 where
    pub items : List X
    pub values : AreValuesFrom outcome from to items
    pub summary : IsSummaryOf step item_count does s items
    pub range : (right z : ℤ) → IsI64 right → does s right ≡ Ok z → IsI64 z

  -- none if there are no such places
  abbrev pub IsFolded : ℕ → ℕ → Option S → Type 0
  IsFolded from to (Some s) = IsFoldFrom from to s
  IsFolded from to None = from ≡ to

  -- the summary of the places of piece `number`, where `starts` has the first place of each piece
  abbrev pub IsFoldedPiece : List ℕ → ℕ → Option S → Type 0
  IsFoldedPiece starts number = IsFolded (slice_index starts number) (slice_index starts (number + 1))

  -- a marked part of a row is the summary of its piece; the rows' first pieces come first
  abbrev pub ArePartsOfRow : (rows row count : ℕ) → List ℕ → List Bool → List (Option S) → Type 0
  ArePartsOfRow rows row count starts marks parts = (n : ℕ) → n < count → slice_index_or marks (n * rows + row) false ≡ true
      → IsFoldedPiece starts n (slice_index_or parts (n * rows + row) None)

  -- what a worker answers for these places
  abbrev pub IsFoldedPart : ℕ → ℕ → Result (Option S) Stop → Type 0
  IsFoldedPart from to (Ok folded) = IsFolded from to folded
  IsFoldedPart from to (Err stop) = IsStopFrom outcome from to stop

  -- the first of a list is the summary of these places
  abbrev pub IsFoldedFirst : ℕ → ℕ → List (Option S) → Type 0
  IsFoldedFirst from to values = IsFolded from to (slice_index_or values 0 None)

-- where two are the summaries of neighbouring places, this is the summary of the places of both
abbrev pub IsJoined : {S X : Type 0} → (X → ℤ → Result ℤ Fault) → (S → ℕ) → (S → ℤ → Result ℤ Fault) → (left right both : Option S) → Type 0
IsJoined {X} step item_count does left right both = (outcome : ℕ → Result X Fault) (from mid to : ℕ)
    → IsFolded step item_count does outcome from mid left → IsFolded step item_count does outcome mid to right
    → IsFolded step item_count does outcome from to both

-- The first of a list is the summary of piece `number` of the pieces of all rows: the rows' first pieces come first
abbrev pub IsPieceOfRows : {S X : Type 0} → (X → ℤ → Result ℤ Fault) → (S → ℕ) → (S → ℤ → Result ℤ Fault) → (ℕ → ℕ → Result X Fault) → (rows : ℕ) → List ℕ → ℕ → List (Option S) → Type 0
IsPieceOfRows step item_count does outcome rows starts number = IsFoldedFirst step item_count does (outcome (number % rows)) (slice_index starts (number / rows)) (slice_index starts (number / rows + 1))

-- A marked part is the summary of its piece. Each row has `count` pieces, which begin and end at `start`. The rows' first pieces come
-- first
abbrev pub ArePartsOf : {S X : Type 0} → (X → ℤ → Result ℤ Fault) → (S → ℕ) → (S → ℤ → Result ℤ Fault) → (ℕ → ℕ → Result X Fault) → (rows count : ℕ) → (ℕ → ℕ) → List Bool → List (Option S) → Type 0
ArePartsOf step item_count does outcome rows count start marks parts = (row n : ℕ) → row < rows → n < count → slice_index_or marks (n * rows + row) false ≡ true
    → IsFolded step item_count does (outcome row) (start n) (start (n + 1)) (slice_index_or parts (n * rows + row) None)
