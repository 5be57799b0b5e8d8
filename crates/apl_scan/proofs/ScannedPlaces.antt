-- Places of lines of neighbours, and what stands before them.
use Rattle.std.proofs.Common.{◌≡◌, ℕ, zero, suc, ℤ, pos, ◌+◌, ◌-◌, ◌*◌, ◌/◌, ◌%◌, ◌<◌, ◌≤◌, List, [], ◌∷◌, ◌++◌, length, take, drop, Option, Some, None, Result, Ok, slice_index_or, slice_set, ap, sym, subst, ◌∙◌, arith, drop-cons, drop-drop, take-add, take-suc, take-take, get_or-drop, get_or-take, length-drop, length-set, refl, get_or-set_same, get_or-set_other, ⊎_elim, mul-le-mul_right}
use Rattle.std.specs.Prelude.{IfSome, MatchOption}
use Rattle.std.proofs.lemmas.Bool.{cases_lt}
use Rattle.std.proofs.lemmas.List.{length-append, get_or_append_left, get_or-append_right}
use Rattle.std.proofs.Math.Nat.{mod-lt, mul-mod_left, div-one, div-add-mod', div-eq_of_lt-le}
use Rattle.apl_pool.specs.declared.kernel.Fault.{Fault}
use Rattle.apl_pool.specs.declared.kernel.TheConstants.{MOST_PLACES}
use Rattle.apl_pool.specs.Pool.{AreValues}
use Rattle.apl_pool.specs.Runs.{AreWritten}
use Rattle.apl_pool.specs.Summaries.{and_then, fold_onto, IsSummaryOf}
use Rattle.apl_scan.specs.declared.chunks.TheConstants.{CHUNK}
use Rattle.apl_summary.specs.Running.{AreFoldsBehind, HasFoldsAppended, IsSummaryOrNone}
use Rattle.apl_scan.specs.Lines.{folded, number_along, numbers_before, scan_at}
use Rattle.apl_scan.specs.Running.{stretch, chunk_start, IsChunkBefore}

-- the place stands in the line of another
pub record IsInLine (items from place : ℕ) : Type 0 where
  pub line : place / items ≡ from / items
  pub first : place - place % items ≡ from - from % items

pub in_line : (items from k place : ℕ) → 0 < items → place ≡ from + k → from % items + k < items → (place % items ≡ from % items + k) × IsInLine items from place
in_line items from k place some is inside =
    let parts = div-add-mod' from items in
    let all = div-add-mod' place items in
    let line : place / items ≡ from / items = div-eq_of_lt-le items (omega (arith, parts, is)) (omega (arith, parts, is, inside)) in
    let same = ap (λ q. q * items) line in
    (omega (arith, parts, all, same, is), record { line = line; first = omega (arith, parts, all, same, is) })

folded_is : (step : ℤ → ℤ → Result ℤ Fault) (numbers : List ℤ) (first j more : ℕ) → first + j + more < length numbers
    → folded step (number_along numbers first 1) j more ≡ fold_onto step (take more (drop (first + j) numbers)) (slice_index_or numbers (first + j + more) (pos 0))
folded_is step numbers first j zero within = ap (λ p. Ok (slice_index_or numbers p (pos 0))) (omega arith)
folded_is step numbers first j (suc more) within =
    let x = slice_index_or numbers (first + j) (pos 0) in
    let read : slice_index_or numbers (first + j * 1) (pos 0) ≡ x = ap (λ p. slice_index_or numbers p (pos 0)) (omega arith) in
    let next = folded_is step numbers first (suc j) more (omega (arith, within)) in
    let list : drop (first + j) numbers ≡ x ∷ drop (suc (first + j)) numbers = drop-cons numbers (first + j) (pos 0) (omega (arith, within)) in
    let from : first + suc j ≡ suc (first + j) = omega arith in
    let last : first + suc j + more ≡ first + j + suc more = omega arith in
    ap (λ y. and_then (folded step (number_along numbers first 1) (suc j) more) (step y)) read
    ∙ ap (λ t. and_then t (step x)) (next ∙ ap (λ p. fold_onto step (take more (drop p numbers)) (slice_index_or numbers (first + suc j + more) (pos 0))) from
    ∙ ap (λ p. fold_onto step (take more (drop (suc (first + j)) numbers)) (slice_index_or numbers p (pos 0))) last)
    ∙ ap (λ l. fold_onto step (take (suc more) l) (slice_index_or numbers (first + j + suc more) (pos 0))) (sym list)

-- the fold up to a place is that of what stands before it onto its number
pub scan_is : (step : ℤ → ℤ → Result ℤ Fault) (numbers : List ℤ) (items place : ℕ) → place < length numbers
    → scan_at step numbers items 1 place ≡ fold_onto step (stretch numbers (place - place % items) (place % items)) (slice_index_or numbers place (pos 0))
scan_is step numbers items place within =
    let before = place % items in
    let count : numbers_before items 1 place ≡ before = ap (λ q. q % items) (div-one place) in
    let least = div-add-mod' place items in
    let first : place - before * 1 ≡ place - before = omega arith in
    let here : place - before + 0 ≡ place - before = omega arith in
    let last : place - before + 0 + before ≡ place = omega (arith, least) in
    ap (λ n. folded step (number_along numbers (place - n * 1) 1) 0 n) count
    ∙ ap (λ f. folded step (number_along numbers f 1) 0 before) first
    ∙ folded_is step numbers (place - before) 0 before (omega (arith, last, within))
    ∙ ap (λ f. fold_onto step (take before (drop f numbers)) (slice_index_or numbers (place - before + 0 + before) (pos 0))) here
    ∙ ap (λ p. fold_onto step (stretch numbers (place - before) before) (slice_index_or numbers p (pos 0))) last

-- a stretch and the number behind it
pub stretch_next : (numbers : List ℤ) (first count place : ℕ) → place ≡ first + count → place < length numbers → stretch numbers first count ++ slice_index_or numbers place (pos 0) ∷ [] ≡ stretch numbers first (count + 1)
stretch_next numbers first count place is within =
    let read : slice_index_or (drop first numbers) count (pos 0) ≡ slice_index_or numbers place (pos 0) = get_or-drop first numbers count (pos 0) ∙ ap (λ p. slice_index_or numbers p (pos 0)) (sym is) in
    let more : count + 1 ≡ suc count = omega arith in
    ap (λ x. stretch numbers first count ++ x ∷ []) (sym read) ∙ sym (take-suc (drop first numbers) count (pos 0) (omega (arith, within, is, length-drop first numbers))) ∙ ap (stretch numbers first) (sym more)

module _ {K S : Type 0} (step : ℤ → ℤ → Result ℤ Fault) (item_count : S → ℕ) (outcome : S → ℤ → Result ℤ Fault) (summary : K → S) where
  pub same_summary : (j k : K) (numbers : List ℤ) → summary j ≡ summary k → IsSummaryOf step (λ x. item_count (summary x)) (λ x. outcome (summary x)) k numbers
      → IsSummaryOf step (λ x. item_count (summary x)) (λ x. outcome (summary x)) j numbers
  same_summary j k numbers same is = record {
    number_of_items = ap item_count same ∙ is.number_of_items;
    does = λ r inside. ap (λ s. outcome s r) same ∙ is.does r inside;
  }

  -- and what is kept, where there is something, is the summary of the same numbers
  pub kept_summary : (kept : Option K) (s : Option S) (numbers : List ℤ) → MatchOption kept (s ≡ None) (λ k. s ≡ Some (summary k)) → IsSummaryOrNone step (λ x. item_count (summary x)) (λ x. outcome (summary x)) numbers kept
      → IsSummaryOrNone step item_count outcome numbers s
  kept_summary None s numbers is none = rw is none
  kept_summary (Some k) s numbers is known = rw is (record { number_of_items = known.number_of_items; does = known.does })

  -- one number more can be counted
  pub room_for_next : (numbers : List ℤ) (before : Option K) → length numbers + 1 ≤ MOST_PLACES → IsSummaryOrNone step (λ x. item_count (summary x)) (λ x. outcome (summary x)) numbers before
      → IfSome before (λ k. item_count (summary k) + 1 ≤ MOST_PLACES)
  room_for_next numbers None room is = tt
  room_for_next numbers (Some k) room is = omega (arith, is.number_of_items, room)

-- the row of the last whole chunk before a place is one of its line's
pub record IsChunkOf (per_line items place row : ℕ) : Type 0 where
  pub is : IsChunkBefore per_line items place row
  pub below : row < (place / items + 1) * per_line

pub chunk_row : (per_line items place row : ℕ) → 0 < items → items ≤ (per_line + 1) * CHUNK → 0 < place % items / CHUNK → row ≡ place / items * per_line + (place % items / CHUNK - 1) → IsChunkOf per_line items place row
chunk_row per_line items place row some fit above at =
    let below : place % items < items = mod-lt place some in
    let parts = div-add-mod' (place % items) CHUNK in
    let most : place % items / CHUNK ≤ per_line = omega (arith, parts, below, fit) in
    let line : row / per_line ≡ place / items = div-eq_of_lt-le per_line (omega (arith, at)) (omega (arith, at, most, above)) in
    let chunk : row % per_line + 1 ≡ place % items / CHUNK = omega (arith, div-add-mod' row per_line, ap (λ q. q * per_line) line, at, above) in
    record { is = record { line = line; chunk = chunk }; below = omega (arith, at, most, above) }

-- the lines before a place are whole
pub line_before : (items place count : ℕ) → place < count → place / items * items < count
line_before items place count inside = omega (arith, div-add-mod' place items, inside)

-- what is summarized up to the end of the chunk
pub stretch_of_chunk : (numbers : List ℤ) (per_line items place row : ℕ) → IsChunkBefore per_line items place row
    → stretch numbers (row / per_line * items) ((row % per_line + 1) * CHUNK) ≡ stretch numbers (place - place % items) (place % items / CHUNK * CHUNK)
stretch_of_chunk numbers per_line items place row is =
    let first : place / items * items ≡ place - place % items = omega (arith, div-add-mod' place items) in
    rw (is.line, is.chunk) (ap (λ f. stretch numbers f (place % items / CHUNK * CHUNK)) first)

-- one value more is written
pub written_next : (outcome : ℕ → Result ℤ Fault) (from k : ℕ) (room : List ℤ) (value : ℤ) → k < length room → outcome (from + k) ≡ Ok value → AreWritten outcome from (from + k) room
    → AreWritten outcome from (from + (k + 1)) (slice_set room k value)
written_next outcome from k room value here is are = record {
  room = omega (arith, here, length-set room k value);
  each = λ j d inside.
      ⊎_elim
      (λ less. are.each j d (omega (arith, less)) ∙ ap (λ (z : ℤ). Ok z) (sym (get_or-set_other room k j value d (λ same. omega (arith, same, less)))))
      (λ last.
      let same : j ≡ k = omega (arith, inside, last) in
      ap (λ n. outcome (from + n)) same ∙ is ∙ ap (λ (z : ℤ). Ok z) (sym (get_or-set_same room k value d here) ∙ ap (λ n. slice_index_or (slice_set room k value) n d) (sym same)))
      (cases_lt j k);
}

-- folds behind what stands before a place are those of the places from it on
pub written_behind : (step : ℤ → ℤ → Result ℤ Fault) (numbers room : List ℤ) (items from count len : ℕ) → from % items + len ≤ items → from + len ≤ length numbers → count ≤ len → length room ≡ len
    → AreFoldsBehind step (stretch numbers (from - from % items) (from % items)) (take len (drop from numbers)) count room → AreWritten (scan_at step numbers items 1) from (from + count) room
written_behind step numbers room items from count len line within most same are = record {
  room = omega (arith, most, same);
  each = λ j d inside.
      let before = from % items in
      let first = from - before in
      let behind = take len (drop from numbers) in
      let x = slice_index_or numbers (from + j) (pos 0) in
      let here : j < count = omega (arith, inside) in
      let earlier : j < len = omega (arith, here, most) in
      let inside_line : before + j < items = omega (arith, earlier, line) in
      let in_it = in_line items from j (from + j) (omega (arith, inside_line)) (omega arith) inside_line in
      let place : from ≡ first + before = omega (arith, div-add-mod' from items) in
      let read : slice_index_or behind j (pos 0) ≡ x = get_or-take len (drop from numbers) j (pos 0) earlier ∙ get_or-drop from numbers j (pos 0) in
      let list : stretch numbers first before ++ take j behind ≡ stretch numbers first (before + j) =
      ap (λ l. stretch numbers first before ++ l) (take-take j len (drop from numbers) (omega (arith, earlier)) ∙ ap (λ p. take j (drop p numbers)) place ∙ ap (take j) (sym (drop-drop before first numbers)))
      ∙ sym (take-add before j (drop first numbers)) in
      scan_is step numbers items (from + j) (omega (arith, earlier, within))
      ∙ ap (λ f. fold_onto step (stretch numbers f ((from + j) % items)) x) in_it.1.first
      ∙ ap (λ n. fold_onto step (stretch numbers first n) x) in_it.0
      ∙ ap (λ l. fold_onto step l x) (sym list)
      ∙ ap (fold_onto step (stretch numbers first before ++ take j behind)) (sym read)
      ∙ are j d here;
}

-- a line lies within the numbers
pub line_within : (count items line : ℕ) → line < count / items → line * items + items ≤ count
line_within count items line inside = omega (arith, div-add-mod' count items, mul-le-mul_right items inside)

-- the folds of one line more
pub line_appended : (step : ℤ → ℤ → Result ℤ Fault) (numbers old new : List ℤ) (items line first : ℕ) → 0 < items → first ≡ line * items → first + items ≤ length numbers
    → HasFoldsAppended step (take items (drop first numbers)) old new → length new ≡ first + items
    → AreValues (scan_at step numbers items 1) first old → AreValues (scan_at step numbers items 1) (first + items) new
line_appended step numbers old new items line first some at within has all are =
    let count : length has.folds ≡ items = omega (arith, all, are.len, ap length has.values ∙ length-append old has.folds) in
    let none : first % items ≡ 0 = ap (λ p. p % items) at ∙ mul-mod_left line items in
    let before : stretch numbers (first - first % items) (first % items) ≡ [] = rw none refl in
    let folds = subst (λ n. AreFoldsBehind step [] (take items (drop first numbers)) n has.folds) count has.are in
    let written = written_behind step numbers has.folds items first items items (omega (arith, none)) within (omega arith) count (rw before folds) in
    record {
      len = all;
      each = λ place d inside.
          ⊎_elim
          (λ less. are.each place d less ∙ ap (λ (z : ℤ). Ok z) (sym (get_or_append_left old has.folds d place (omega (arith, less, are.len)))))
          (λ more.
          let here : first + (place - first) ≡ place = omega (arith, more) in
          ap (scan_at step numbers items 1) (sym here) ∙ written.each (place - first) d (omega (arith, more, inside))
          ∙ ap (λ (z : ℤ). Ok z) (sym (get_or-append_right old has.folds first place d are.len more)))
          (cases_lt place first)
          ∙ ap (λ l. Ok (slice_index_or l place d)) (sym has.values);
    }

-- ---- the chunks of all lines

whole_lines_before : (a b n : ℕ) → a * n < b * n → a < b
whole_lines_before a b n less = ⊎_elim (λ is. is) (λ more. absurd (omega (arith, less, mul-le-mul_right n more))) (cases_lt a b)

-- a chunk lies within the numbers
pub chunk_within : (count items per_line row : ℕ) → 0 < per_line → per_line * CHUNK < items → row < count / items * per_line → chunk_start items per_line row + CHUNK ≤ count
chunk_within count items per_line row some fit inside =
    let line = row / per_line in
    let parts = div-add-mod' row per_line in
    let chunk = mod-lt row some in
    let earlier : line < count / items = whole_lines_before line (count / items) per_line (omega (arith, parts, inside)) in
    let next : (line + 1) * items ≤ count / items * items = mul-le-mul_right items (omega (arith, earlier)) in
    omega (arith, next, div-add-mod' count items, chunk, fit)

-- all chunks together have no more numbers than there are
pub chunks_within : (count items per_line : ℕ) → per_line * CHUNK < items → count / items * per_line * CHUNK ≤ count
chunks_within count items per_line fit =
    let all : per_line * CHUNK * (count / items) ≤ items * (count / items) = mul-le-mul_right (count / items) (omega (arith, fit)) in
    omega (arith, all, div-add-mod' count items)

-- the rows of a line
pub rows_of_line : (count items per_line line : ℕ) → count / items * items ≡ count → line * items < count → (line + 1) * per_line ≤ count / items * per_line
rows_of_line count items per_line line whole inside =
    let earlier : line < count / items = whole_lines_before line (count / items) items (omega (arith, whole, inside)) in
    mul-le-mul_right per_line (omega (arith, earlier))

-- a line has a whole number of chunks before its last number, and less than one more
pub chunks_before_last : (items : ℕ) → 0 < items → ((items - 1) / CHUNK * CHUNK < items) × (items ≤ ((items - 1) / CHUNK + 1) * CHUNK)
chunks_before_last items some =
    let parts = div-add-mod' (items - 1) CHUNK in
    let rest : (items - 1) % CHUNK < CHUNK = mod-lt (items - 1) (omega arith) in
    (omega (arith, parts, some), omega (arith, parts, rest, some))
