-- What the numbers of a line before a place do, in lines of neighbours. No contract of a public function cites this file.
use Rattle.std.specs.Prelude.{◌≡◌, ℕ, ℤ, ◌+◌, ◌-◌, ◌*◌, ◌/◌, ◌%◌, ◌<◌, ◌≤◌, ◌++◌, List, [], ◌∷◌, take, drop, length, Option, Result, slice_index_or}
use Rattle.apl_pool.specs.declared.kernel.Fault.{Fault}
use Rattle.apl_pool.specs.Summaries.{IsSummaryOf}
use Rattle.apl_summary.specs.Running.{IsSummaryOrNone}
use Rattle.apl_scan.specs.declared.chunks.TheConstants.{CHUNK}

-- `count` numbers from place `first` on
abbrev pub stretch : List ℤ → (first count : ℕ) → List ℤ
stretch numbers first count = take count (drop first numbers)

-- the numbers of its line before a place, of lines of `items` numbers, and those of the whole chunks before it
abbrev pub line_before : List ℤ → (items place : ℕ) → List ℤ
line_before numbers items place = stretch numbers (place - place % items) (place % items)

abbrev pub chunks_before : List ℤ → (items place : ℕ) → List ℤ
chunks_before numbers items place = stretch numbers (place - place % items) (place % items / CHUNK * CHUNK)

-- where the chunk of a row begins: a line of `items` numbers has `per_line` chunks, a row each
abbrev pub chunk_start : (items per_line row : ℕ) → ℕ
chunk_start items per_line row = row / per_line * items + row % per_line * CHUNK

-- the row of the last whole chunk of a place's line before the place
pub record IsChunkBefore (per_line items place row : ℕ) : Type 0 where
  pub line : row / per_line ≡ place / items
  pub chunk : row % per_line + 1 ≡ place % items / CHUNK

module _ {S : Type 0} (step : ℤ → ℤ → Result ℤ Fault) (item_count : S → ℕ) (outcome : S → ℤ → Result ℤ Fault) where
  -- the summary of whatever numbers are before, and of one more
  abbrev pub IsWithNext : (before : Option S) → (number : ℤ) → S → Type 0
  IsWithNext before number s = (numbers : List ℤ) → IsSummaryOrNone step item_count outcome numbers before → IsSummaryOf step item_count outcome s (numbers ++ number ∷ [])

  -- of the chunk of a row
  abbrev pub IsOfChunk : List ℤ → (items per_line row : ℕ) → S → Type 0
  IsOfChunk numbers items per_line row s = IsSummaryOf step item_count outcome s (stretch numbers (chunk_start items per_line row) CHUNK)

  -- of its line up to the end of it
  abbrev pub IsUpToChunk : List ℤ → (items per_line row : ℕ) → S → Type 0
  IsUpToChunk numbers items per_line row s = IsSummaryOf step item_count outcome s (stretch numbers (row / per_line * items) ((row % per_line + 1) * CHUNK))

  -- the summaries of the chunks of all rows
  abbrev pub AreOfChunks : List ℤ → (items per_line rows : ℕ) → List S → Type 0
  AreOfChunks numbers items per_line rows summaries = (row : ℕ) (d : S) → row < rows → IsOfChunk numbers items per_line row (slice_index_or summaries row d)

  -- the summaries of all rows, up to the end of the chunk of each
  abbrev pub AreUpToChunks : List ℤ → (items per_line rows : ℕ) → List S → Type 0
  AreUpToChunks numbers items per_line rows summaries = (row : ℕ) (d : S) → row < rows → IsUpToChunk numbers items per_line row (slice_index_or summaries row d)

  -- those before a row are up to the end of their chunks, and the others of their chunks alone
  pub record AreCarriedTo (numbers : List ℤ) (items per_line rows row : ℕ) (summaries : List S) : Type 0 where
    pub len : length summaries ≡ rows
    pub joined : (r : ℕ) (d : S) → r < row → r < rows → IsUpToChunk numbers items per_line r (slice_index_or summaries r d)
    pub alone : (r : ℕ) (d : S) → row ≤ r → r < rows → IsOfChunk numbers items per_line r (slice_index_or summaries r d)
