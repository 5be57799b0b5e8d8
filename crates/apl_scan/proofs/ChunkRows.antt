-- Chunks that follow one another in a line.
use Rattle.std.proofs.Common.{◌≡◌, ℕ, ℤ, pos, ◌+◌, ◌-◌, ◌*◌, ◌/◌, ◌%◌, ◌<◌, ◌≤◌, List, ◌++◌, length, take, drop, Result, Ok, Err, slice_index_or, slice_set, refl, ap, sym, subst, ◌∙◌, ⊎_elim, arith, take-add, drop-drop, length-take-le, length-drop, ext_get_or, get_or-take, get_or-drop, get_or-set_same, get_or-set_other, length-set}
use Rattle.std.proofs.lemmas.Bool.{cases_lt}
use Rattle.std.proofs.Math.Nat.{mod-lt, zero-mod, div-add-mod', div-eq_of_lt-le}
use Rattle.apl_pool.specs.declared.kernel.Fault.{Fault}
use Rattle.apl_pool.specs.Pool.{AreValues}
use Rattle.apl_pool.specs.Summaries.{IsI64, and_then, IsSummaryOf}
use Rattle.apl_scan.specs.declared.chunks.TheConstants.{CHUNK}
use Rattle.apl_scan.specs.Running.{stretch, chunk_start, IsOfChunk, IsUpToChunk, AreOfChunks, AreUpToChunks, AreCarriedTo}
use Rattle.apl_scan.proofs.Joins.{of_both}

-- the next chunk stands in the same line
pub record IsNextChunk (per_line row next : ℕ) : Type 0 where
  pub line : next / per_line ≡ row / per_line
  pub chunk : next % per_line ≡ row % per_line + 1

pub next_in_line : (per_line row next : ℕ) → 0 < per_line → next ≡ row + 1 → (next % per_line ≡ 0 → ⊥) → IsNextChunk per_line row next
next_in_line per_line row next some is inside =
    let parts = div-add-mod' row per_line in
    let all = div-add-mod' next per_line in
    let below : row % per_line < per_line = mod-lt row some in
    ⊎_elim
    (λ less.
    let line : next / per_line ≡ row / per_line = div-eq_of_lt-le per_line (omega (arith, parts, is)) (omega (arith, parts, is, less)) in
    record { line = line; chunk = omega (arith, all, ap (λ n. n * per_line) line, parts, is) })
    (λ last.
    let line : next / per_line ≡ row / per_line + 1 = div-eq_of_lt-le per_line (omega (arith, parts, is, last, below)) (omega (arith, parts, is, last, below)) in
    absurd (inside (omega (arith, all, ap (λ n. n * per_line) line, parts, is, last, below))))
    (cases_lt (row % per_line + 1) per_line)

pub stretch_more : (numbers : List ℤ) (first count more : ℕ) → stretch numbers first count ++ stretch numbers (first + count) more ≡ stretch numbers first (count + more)
stretch_more numbers first count more =
    ap (λ xs. stretch numbers first count ++ take more xs) (sym (drop-drop count first numbers)) ∙ sym (take-add count more (drop first numbers))

pub stretch_length : (numbers : List ℤ) (first count : ℕ) → first + count ≤ length numbers → length (stretch numbers first count) ≡ count
stretch_length numbers first count within = length-take-le count (drop first numbers) (omega (arith, within, length-drop first numbers))

abbrev value_of : Result ℤ Fault → ℤ
value_of (Ok z) = z
value_of (Err fault) = pos 0

-- the values of a chunk's places are its stretch
pub chunk_is : (numbers items : List ℤ) (first : ℕ) → first + CHUNK ≤ length numbers → AreValues (λ place. Ok (slice_index_or numbers (first + place) (pos 0))) CHUNK items → items ≡ stretch numbers first CHUNK
chunk_is numbers items first within are =
    ext_get_or (pos 0) items (stretch numbers first CHUNK) (are.len ∙ sym (stretch_length numbers first CHUNK within))
    (λ i inside.
    let here : i < CHUNK = omega (arith, inside, are.len) in
    sym (get_or-take CHUNK (drop first numbers) i (pos 0) here ∙ get_or-drop first numbers i (pos 0) ∙ ap value_of (are.each i (pos 0) here)))

module _ {S : Type 0} (step : ℤ → ℤ → Result ℤ Fault) (item_count : S → ℕ) (outcome : S → ℤ → Result ℤ Fault) (numbers : List ℤ) (items per_line : ℕ) where
  first_chunk : (row : ℕ) (s : S) → row % per_line ≡ 0 → IsOfChunk step item_count outcome numbers items per_line row s → IsUpToChunk step item_count outcome numbers items per_line row s
  first_chunk row s none is =
      let start : chunk_start items per_line row ≡ row / per_line * items = ap (λ c. row / per_line * items + c * CHUNK) none ∙ omega arith in
      let all : (row % per_line + 1) * CHUNK ≡ CHUNK = ap (λ c. (c + 1) * CHUNK) none in
      subst (λ n. IsSummaryOf step item_count outcome s (stretch numbers (row / per_line * items) n)) (sym all)
      (subst (λ first. IsSummaryOf step item_count outcome s (stretch numbers first CHUNK)) start is)

  next_chunk : (row next : ℕ) (left right both : S) → IsNextChunk per_line row next
      → IsUpToChunk step item_count outcome numbers items per_line row left → IsOfChunk step item_count outcome numbers items per_line next right
      → ((r z : ℤ) → IsI64 r → outcome right r ≡ Ok z → IsI64 z)
      → item_count both ≡ item_count left + item_count right → ((r : ℤ) → IsI64 r → outcome both r ≡ and_then (outcome right r) (outcome left))
      → IsUpToChunk step item_count outcome numbers items per_line next both
  next_chunk row next left right both same is_left is_right range count does =
      let line = row / per_line * items in
      let done = (row % per_line + 1) * CHUNK in
      let start : chunk_start items per_line next ≡ line + done = rw (same.line, same.chunk) refl in
      let joined = of_both step item_count outcome left right both (stretch numbers line done) (stretch numbers (chunk_start items per_line next) CHUNK) is_left is_right range count does in
      let lists : stretch numbers line done ++ stretch numbers (chunk_start items per_line next) CHUNK ≡ stretch numbers (next / per_line * items) ((next % per_line + 1) * CHUNK) =
      ap (λ first. stretch numbers line done ++ stretch numbers first CHUNK) start
      ∙ stretch_more numbers line done CHUNK
      ∙ rw (same.line, same.chunk) (ap (stretch numbers line) (omega arith)) in
      subst (IsSummaryOf step item_count outcome both) lists joined

  -- the first row is of its chunk alone and up to its end
  pub carried_at_first : (rows : ℕ) (summaries : List S) → length summaries ≡ rows → AreOfChunks step item_count outcome numbers items per_line rows summaries
      → AreCarriedTo step item_count outcome numbers items per_line rows 1 summaries
  carried_at_first rows summaries len are = record {
    len = len;
    joined = λ r d first inside.
        let none : r ≡ 0 = omega (arith, first) in
        first_chunk r (slice_index_or summaries r d) (ap (λ n. n % per_line) none ∙ zero-mod per_line) (are r d inside);
    alone = λ r d after inside. are r d inside;
  }

  -- a row that begins a line stays as it is
  pub carried_past_first : (rows row : ℕ) (summaries : List S) → row < rows → row % per_line ≡ 0 → AreCarriedTo step item_count outcome numbers items per_line rows row summaries
      → AreCarriedTo step item_count outcome numbers items per_line rows (row + 1) summaries
  carried_past_first rows row summaries here none are = record {
    len = are.len;
    joined = λ r d before inside.
        ⊎_elim
        (λ less. are.joined r d less inside)
        (λ last. first_chunk r (slice_index_or summaries r d) (ap (λ n. n % per_line) (omega (arith, before, last)) ∙ none) (are.alone r d last inside))
        (cases_lt r row);
    alone = λ r d after inside. are.alone r d (omega (arith, after)) inside;
  }

  -- another is joined to the one before it
  pub carried_past_next : (rows row : ℕ) (summaries : List S) (both : S) → row < rows → IsUpToChunk step item_count outcome numbers items per_line row both
      → AreCarriedTo step item_count outcome numbers items per_line rows row summaries
      → AreCarriedTo step item_count outcome numbers items per_line rows (row + 1) (slice_set summaries row both)
  carried_past_next rows row summaries both here is are =
      let inside : row < length summaries = omega (arith, here, are.len) in
      record {
        len = length-set summaries row both ∙ are.len;
        joined = λ r d before within.
            ⊎_elim
            (λ less. subst (IsUpToChunk step item_count outcome numbers items per_line r) (sym (get_or-set_other summaries row r both d (λ same. omega (arith, same, less)))) (are.joined r d less within))
            (λ last.
            let same : r ≡ row = omega (arith, before, last) in
            subst (λ n. IsUpToChunk step item_count outcome numbers items per_line n (slice_index_or (slice_set summaries row both) n d)) (sym same)
            (subst (IsUpToChunk step item_count outcome numbers items per_line row) (sym (get_or-set_same summaries row both d inside)) is))
            (cases_lt r row);
        alone = λ r d after within. subst (IsOfChunk step item_count outcome numbers items per_line r) (sym (get_or-set_other summaries row r both d (λ same. omega (arith, same, after)))) (are.alone r d (omega (arith, after)) within);
      }

  -- two neighbouring summaries, of which the right one begins no line
  pub record IsJoint (rows row : ℕ) (left right : S) : Type 0 where
    pub next : IsNextChunk per_line (row - 1) row
    pub is_left : IsUpToChunk step item_count outcome numbers items per_line (row - 1) left
    pub is_right : IsOfChunk step item_count outcome numbers items per_line row right

  pub joint : (rows row : ℕ) (summaries : List S) (left right : S) → 0 < per_line → 0 < row → row < rows → (row % per_line ≡ 0 → ⊥)
      → left ≡ slice_index_or summaries (row - 1) left → right ≡ slice_index_or summaries row right
      → AreCarriedTo step item_count outcome numbers items per_line rows row summaries → IsJoint rows row left right
  joint rows row summaries left right some above here inside left_is right_is are = record {
    next = next_in_line per_line (row - 1) row some (omega (arith, above)) inside;
    is_left = subst (IsUpToChunk step item_count outcome numbers items per_line (row - 1)) (sym left_is) (are.joined (row - 1) left (omega (arith, above)) (omega (arith, here)));
    is_right = subst (IsOfChunk step item_count outcome numbers items per_line row) (sym right_is) (are.alone row right (omega arith) here);
  }

  -- what joins them is of the line up to the end of the right one
  pub joined_chunk : (rows row : ℕ) (left right both : S) → IsJoint rows row left right → ((r z : ℤ) → IsI64 r → outcome right r ≡ Ok z → IsI64 z)
      → item_count both ≡ item_count left + item_count right → ((r : ℤ) → IsI64 r → outcome both r ≡ and_then (outcome right r) (outcome left))
      → IsUpToChunk step item_count outcome numbers items per_line row both
  joined_chunk rows row left right both are range count does = next_chunk (row - 1) row left right both are.next are.is_left are.is_right range count does

  -- they have no more numbers than there are
  pub count_of_both : (rows row : ℕ) (left right : S) → IsJoint rows row left right → chunk_start items per_line row + CHUNK ≤ length numbers → item_count left + item_count right ≤ length numbers
  count_of_both rows row left right are end =
      let line = (row - 1) / per_line * items in
      let done = ((row - 1) % per_line + 1) * CHUNK in
      let start : chunk_start items per_line row ≡ line + done = rw (are.next.line, are.next.chunk) refl in
      let left = are.is_left.number_of_items ∙ stretch_length numbers line done (omega (arith, end, start)) in
      let right = are.is_right.number_of_items ∙ stretch_length numbers (chunk_start items per_line row) CHUNK end in
      omega (arith, left, right, end, start)

  pub carried_all : (rows row : ℕ) (summaries : List S) → rows ≤ row → AreCarriedTo step item_count outcome numbers items per_line rows row summaries
      → AreUpToChunks step item_count outcome numbers items per_line rows summaries
  carried_all rows row summaries all are = λ r d inside. are.joined r d (omega (arith, inside, all)) inside
