-- Indexes that counts repeat, and lists of numbers as counts.
use Rattle.std.proofs.Common.{◌≡◌, ℕ, zero, suc, add-one, ◌+◌, ◌-◌, ◌*◌, ◌/◌, ◌<◌, List, [], ◌∷◌, ◌++◌, take, length, replicate, slice_index, refl, ap, sym, subst, ◌∙◌, ⊎_elim, arith, ℤ, pos, negsuc, true, false, eq-eqb, map, slice_index_or, inl, inr, int_lt, nat_abs, to_z, of_z, w64, nat_le, slice_set, Result, Err, FitsSigned}
use Rattle.std.specs.Prelude.{Bool, ◌&&◌, max, option_map, Some, ◌≤◌, All, sum, flat_map, ◌^◌, ◌==◌, ◌⊎◌}
use Rattle.std.specs.List.{range_with_len, list_all}
use Rattle.std.proofs.Math.Nat.{div-eq_of_lt, add-div_right}
use Rattle.std.proofs.lemmas.Bool.{cases_lt, true≢false, cases_Bool, eqb-true, eqb-false, ne_eqb, ltb-true}
use Rattle.std.proofs.lemmas.Int.{ints}
use Rattle.std.proofs.lemmas.List.{append-nil, append_assoc, length-append, length-replicate, get_or_append_left, get_or-append_right, get_or-replicate, length-map, length-set, get_or-set_same}
use Rattle.std.proofs.lemmas.List.Elements.{All-nil, All-append, All-replicate}
use Rattle.std.proofs.Math.Bool.{and-true, and-false}
use Rattle.std.proofs.lemmas.List.Sums.{sum_by-cons, sum_by_more, AllPass-from_list_all, list_all-from_AllPass}
use Rattle.apl_struct.specs.Compressing.{as_vector, repeated_indexes, expanded_index, expand_row}
use Rattle.std.proofs.Math.ListN.{get_or-map}
use Rattle.std.proofs.lemmas.Bool.Decides.{nat_tests}
use Rattle.std.proofs.lemmas.List.Folds.{sum_by-replicate, list_all_at}
use Rattle.apl_array.specs.Axes.{place_number, has_axis, axis_of}
use Rattle.apl_answer.specs.Arguments.{is_bit, is_list, is_scalar, is_natural, is_numbers, number_of, numbers_of, rank_of, size_of}
use Rattle.apl_struct.specs.Expanding.{expanded}
use Rattle.apl_struct.proofs.Taken.{pos_right}
use Rattle.std.proofs.lemmas.Grind.{get_or-set_at}
use Rattle.apl_array.specs.Shape.{count_of, is_shape, most_axes, most_elements}
use Rattle.apl_array.specs.declared.array.Elem.TheVariants.{Int}
use Rattle.apl_array.specs.Array.{ArrayValue, bit, element_at}
use Rattle.apl_walk.specs.Ones.{one_index, next_index, ones_before}
use Rattle.apl_answer.specs.declared.fault.OpFault.{OpFault}
use Rattle.apl_answer.specs.declared.fault.OpFault.TheVariants.{Domain, Length, Limit, Memory}
use Rattle.apl_answer.specs.Pointwise.{IsAnswerOf}
use Rattle.apl_answer.specs.Rows.{Answers}
use Rattle.apl_array.specs.declared.axis.Axis.{Axis}
use Rattle.apl_struct.specs.Gathering.{element_or_fill, along_axis, along_axis_or_none}
use Rattle.apl_struct.specs.Shaped.{IsArrayOrLimit}
use Rattle.apl_struct.specs.Replicating.{replicated}

abbrev repeats : (start : ℕ) (counts : List ℕ) → List ℕ
repeats start [] = []
repeats start (c ∷ cs) = replicate c start ++ repeats (start + 1) cs

repeats_of : (count : ℕ → ℕ) (start : ℕ) (counts : List ℕ) → ((i : ℕ) → i < length counts → count (start + i) ≡ slice_index counts i)
    → flat_map (λ i. replicate (count i) i) (range_with_len start (length counts)) ≡ repeats start counts
repeats_of count start [] same = refl
repeats_of count start (c ∷ cs) same =
    let first : start ≡ start + 0 = omega arith in
    let here : count start ≡ c = ap count first ∙ same 0 (omega arith) in
    let further : (i : ℕ) → start + 1 + i ≡ start + suc i = λ i. omega arith in
    rw (here, repeats_of count (start + 1) cs (λ i inside. ap count (further i) ∙ same (suc i) (omega (arith, inside)))) refl

repeated_is : (counts : List ℕ) → repeated_indexes counts ≡ repeats 0 counts
repeated_is counts = repeats_of (slice_index counts) 0 counts (λ i inside. ap (slice_index counts) (omega arith))

repeats_step : (start : ℕ) (counts : List ℕ) (i : ℕ) → i < length counts → repeats start (take (suc i) counts) ≡ repeats start (take i counts) ++ replicate (slice_index counts i) (start + i)
repeats_step start [] i inside = absurd (omega (arith, inside))
repeats_step start (c ∷ cs) zero inside =
    let first : start ≡ start + 0 = omega arith in
    append-nil (replicate c start) ∙ ap (replicate c) first
repeats_step start (c ∷ cs) (suc i) inside =
    let further : start + 1 + i ≡ start + suc i = omega arith in
    rw (repeats_step (start + 1) cs i (omega (arith, inside)), further) (sym (append_assoc (replicate c start) (repeats (start + 1) (take i cs)) _))

repeats_below : (start : ℕ) (counts : List ℕ) (n : ℕ) → start + length counts ≤ n → All (λ i. i < n) (repeats start counts)
repeats_below start [] n most = All-nil (λ i. i < n)
repeats_below start (c ∷ cs) n most =
    All-append (λ i. i < n) (replicate c start) (repeats (start + 1) cs) (All-replicate (λ i. i < n) c start (omega (arith, most))) (repeats_below (start + 1) cs n (omega (arith, most)))

repeated_below : (counts : List ℕ) → All (λ i. i < length counts) (repeated_indexes counts)
repeated_below counts = rw (repeated_is counts) (repeats_below 0 counts (length counts) (omega arith))

repeats_length : (start : ℕ) (counts : List ℕ) → length (repeats start counts) ≡ sum counts
repeats_length start [] = refl
repeats_length start (c ∷ cs) =
    rw (length-append (replicate c start) (repeats (start + 1) cs), length-replicate c start, repeats_length (start + 1) cs) (sym (sum_by-cons (λ n. n) c cs))

-- as many as the counts in all
pub repeated_length : (counts : List ℕ) → length (repeated_indexes counts) ≡ sum counts
repeated_length counts = ap length (repeated_is counts) ∙ repeats_length 0 counts

repeats_same : (start n c i : ℕ) → i < n * c → slice_index (repeats start (replicate n c)) i ≡ start + i / c
repeats_same start zero c i inside = absurd (omega (arith, inside))
repeats_same start (suc n) c i inside =
    let rest = repeats (start + 1) (replicate n c) in
    let long = length-replicate c start in
    ⊎_elim
    (λ first.
    let none : start ≡ start + i / c = omega (arith, div-eq_of_lt first) in
    get_or_append_left (replicate c start) rest 0 i (omega (arith, first, long)) ∙ get_or-replicate c i start 0 first ∙ none)
    (λ later.
    let some : 0 < c = pos_right (suc n) c (omega (arith, inside)) in
    let back : i - c + c ≡ i = omega (arith, later) in
    let next : i / c ≡ (i - c) / c + 1 = ap (λ m. m / c) (sym back) ∙ add-div_right (i - c) some in
    get_or-append_right (replicate c start) rest c i 0 long later
    ∙ repeats_same (start + 1) n c (i - c) (omega (arith, later, inside))
    ∙ omega (arith, next))
    (cases_lt i c)

-- each index so many times
pub repeated_same : (n c i : ℕ) → i < n * c → slice_index (repeated_indexes (replicate n c)) i ≡ i / c
repeated_same n c i inside =
    let here : 0 + i / c ≡ i / c = omega arith in
    rw (repeated_is (replicate n c)) (repeats_same 0 n c i inside ∙ here)

-- those that counts of all n indexes repeat are below n
pub repeated_taken : (n : ℕ) (counts indexes : List ℕ) → length counts ≡ n → indexes ≡ repeated_indexes counts → All (λ i. i < n) indexes
repeated_taken n counts indexes many are =
    let below : All (λ i. i < length counts) indexes = rw are (repeated_below counts) in
    subst (λ m. All (λ i. i < m) indexes) many below

-- ---- truth values, as counts

ones_sum : (truths : List Bool) → sum (map place_number (map bit truths)) ≡ ones_before truths (length truths)
ones_sum [] = refl
ones_sum (true ∷ truths) = sum_by-cons (λ n. n) 1 (map place_number (map bit truths)) ∙ ap (λ n. 1 + n) (ones_sum truths)
ones_sum (false ∷ truths) = sum_by-cons (λ n. n) 0 (map place_number (map bit truths)) ∙ ap (λ n. 0 + n) (ones_sum truths)

-- they are no more than there are truth values
pub ones_most : (truths : List Bool) → ones_before truths (length truths) ≤ length truths
ones_most [] = omega arith
ones_most (true ∷ truths) = omega (arith, ones_most truths)
ones_most (false ∷ truths) = omega (arith, ones_most truths)

pub truths_natural : (truths : List Bool) → list_all is_natural (map bit truths) ≡ true
truths_natural [] = refl
truths_natural (true ∷ truths) = truths_natural truths
truths_natural (false ∷ truths) = truths_natural truths

repeats_ones : (start : ℕ) (truths : List Bool) (i : ℕ) → i < ones_before truths (length truths)
    → slice_index (repeats start (map place_number (map bit truths))) i ≡ start + one_index truths i
repeats_ones start [] i inside = absurd (omega (arith, inside))
repeats_ones start (false ∷ truths) i inside = omega (arith, repeats_ones (start + 1) truths i (omega (arith, inside)))
repeats_ones start (true ∷ truths) zero inside = omega arith
repeats_ones start (true ∷ truths) (suc i) inside = omega (arith, repeats_ones (start + 1) truths i (omega (arith, inside)))

-- the indexes at which they are true
one_repeated : (truths : List Bool) (i : ℕ) → i < ones_before truths (length truths) → slice_index (repeated_indexes (map place_number (map bit truths))) i ≡ one_index truths i
one_repeated truths i inside = rw (repeated_is (map place_number (map bit truths))) (omega (arith, repeats_ones 0 truths i inside))

-- ---- bits, as counts

abbrev pub counts : List ℤ → List ℕ
counts bits = map place_number bits

pub count_at : (bits : List ℤ) (i : ℕ) → slice_index (counts bits) i ≡ place_number (slice_index_or bits i (pos 0))
count_at bits i = get_or-map place_number bits i (pos 0)

pub bit_natural : (z : ℤ) → is_bit z ≡ true → is_natural z ≡ true
bit_natural (pos n) bit = refl
bit_natural (negsuc n) bit = absurd (true≢false (sym bit))

-- ---- numbers from 0 up, as counts

pub natural_is : (z : ℤ) → to_z w64 (of_z w64 z) ≡ z → int_lt (to_z w64 (of_z w64 z)) (pos 0) ≡ false → is_natural z ≡ true
natural_is (pos n) turned least = refl
natural_is (negsuc n) turned least = absurd (true≢false (sym (ap (λ z. int_lt z (pos 0)) turned) ∙ least))

pub below_natural : (z : ℤ) → int_lt z (pos 0) ≡ true → is_natural z ≡ false
below_natural (pos n) below = absurd (omega (arith, ltb-true n 0 below))
below_natural (negsuc n) below = refl

-- a count is what its cast is
pub cast_is : (z : ℤ) → is_natural z ≡ true → to_z w64 (of_z w64 z) ≡ z → nat_abs (to_z w64 (of_z w64 z)) ≡ place_number z
cast_is (pos n) natural turned = ap nat_abs turned
cast_is (negsuc n) natural turned = absurd (true≢false (sym natural))

-- and so is its bits as a number from 0 up, where those of a count below 0 are far up
pub bits_natural_count : (z : ℤ) (n : ℕ) → n ≡ of_z w64 z → is_natural z ≡ true → n ≡ place_number z
bits_natural_count (pos m) n is natural = is
bits_natural_count (negsuc m) n is natural = absurd (true≢false (sym natural))

pub low_bits_natural : (z : ℤ) (n : ℕ) → FitsSigned w64 z → n ≡ of_z w64 z → n < 2 ^ 63 → is_natural z ≡ true
low_bits_natural (pos m) n fits is low = refl
low_bits_natural (negsuc m) n fits is low = absurd (omega (arith, ints, fits, is, low))

pub natural_sum : (numbers : List ℤ) (i : ℕ) → i < length numbers → sum (take (i + 1) (map place_number numbers)) ≡ sum (take i (map place_number numbers)) + place_number (slice_index_or numbers i (pos 0))
natural_sum numbers i inside =
    omega (arith, sum_by_more (λ n. n) (map place_number numbers) i 0 (omega (arith, inside, length-map numbers place_number)), count_at numbers i)

pub natural_repeats : (numbers : List ℤ) (i : ℕ) → i < length numbers
    → repeated_indexes (take (i + 1) (map place_number numbers)) ≡ repeated_indexes (take i (map place_number numbers)) ++ replicate (place_number (slice_index_or numbers i (pos 0))) i
natural_repeats numbers i inside =
    let own = map place_number numbers in
    let here : 0 + i ≡ i = omega arith in
    let step = repeats_step 0 own i (omega (arith, inside, length-map numbers place_number)) in
    rw (add-one, repeated_is (take (suc i) own), repeated_is (take i own), step, here, count_at numbers i) refl

pub bits_natural : (bits : List ℤ) → list_all is_bit bits ≡ true → list_all is_natural bits ≡ true
bits_natural bits all = list_all-from_AllPass is_natural bits (λ i d inside. bit_natural (slice_index_or bits i d) (AllPass-from_list_all is_bit bits all i d inside))

-- one number alone
pub single_natural : (numbers : List ℤ) → length numbers ≡ 1 → list_all is_natural numbers ≡ is_natural (slice_index_or numbers 0 (pos 0))
single_natural [] one = absurd (omega (arith, one))
single_natural (z ∷ []) one = and-true (is_natural z)
single_natural (y ∷ z ∷ zs) one = absurd (omega (arith, one))

-- ---- a shape with an axis past the limit

pub shape_past : (shape : List ℕ) (k n : ℕ) → k < length shape → most_elements < n → is_shape (slice_set shape k n) ≡ false
shape_past shape k n axis past =
    let new = slice_set shape k n in
    let here : slice_index new k ≡ n = get_or-set_at shape k k n 0 refl axis in
    let none : list_all (λ m. nat_le m most_elements) new ≡ false =
    list_all_at (λ m. nat_le m most_elements) new k 0 (omega (arith, axis, length-set shape k n)) (rw here (grind (arith, nat_tests))) in
    rw none (and-false (nat_le (length new) most_axes))

-- ---- the row of A/B, where all but its counts was judged

-- the indexes that counts repeat, where they are taken from a list
pub repeated_answer : (c : ArrayValue) (k extent : ℕ) (counts indexes : List ℕ) (result : Result ArrayValue OpFault)
    → extent ≡ length indexes → indexes ≡ repeated_indexes counts → IsArrayOrLimit (slice_set c.shape k extent) c.kind (λ index. element_or_fill c (along_axis_or_none k (λ i. Some (slice_index indexes i)) index)) result
    → IsAnswerOf (replicated c k counts) result
repeated_answer c k extent counts indexes result long are given =
    let made = rw (long ∙ ap length are ∙ repeated_length counts, are) at given in
    made (λ index. element_at c (along_axis k (slice_index (repeated_indexes counts)) index)) (λ index inside. refl)

-- the indexes at which truth values are true, where they are not listed
pub ones_answer : (c : ArrayValue) (k extent : ℕ) (truths : List Bool) (result : Result ArrayValue OpFault) → k < length c.shape → extent ≡ ones_before truths (length truths)
    → IsArrayOrLimit (slice_set c.shape k extent) c.kind (λ index. element_or_fill c (along_axis_or_none k (λ i. Some (one_index truths i)) index)) result
    → IsAnswerOf (replicated c k (counts (map bit truths))) result
ones_answer c k extent truths result axis long given =
    let own = counts (map bit truths) in
    let shape = slice_set c.shape k (sum own) in
    let made = rw (long ∙ sym (ones_sum truths)) at given in
    made (λ index. element_at c (along_axis k (slice_index (repeated_indexes own)) index)) (λ index inside.
    let i = slice_index index k in
    let extent_is : slice_index shape k ≡ sum own = get_or-set_same c.shape k (sum own) 0 axis in
    let wide : k < length shape = omega (arith, axis, length-set c.shape k (sum own)) in
    let here : i < ones_before truths (length truths) = omega (arith, inside.below k wide, extent_is, ones_sum truths) in
    rw (one_repeated truths i here) refl)

pub numbers_kept : (numbers : List ℤ) → map number_of (map Int numbers) ≡ numbers
numbers_kept [] = refl
numbers_kept (n ∷ ns) = ap (λ l. n ∷ l) (numbers_kept ns)

pub truth_bit : (truths : List Bool) → list_all is_bit (map bit truths) ≡ true
truth_bit [] = refl
truth_bit (true ∷ truths) = truth_bit truths
truth_bit (false ∷ truths) = truth_bit truths

vector_rank : (n : ℕ) (b : ArrayValue) → rank_of (as_vector n b) ≡ max 1 (rank_of b)
vector_rank n b =
    elim (cases_Bool (is_scalar b)) [
      | inl scalar ↦ let none = eqb-true (rank_of b) 0 scalar in rw (scalar, none) refl
      | inr vector ↦ let several = eqb-false (rank_of b) 0 vector in rw vector (grind (arith, nat_tests, several))
    ]

-- ---- rows of A\B, where all but the count of the ones and the limit was judged

sum_to : (truths : List Bool) (i : ℕ) → sum (take i (counts (map bit truths))) ≡ ones_before truths i
sum_to [] zero = refl
sum_to [] (suc i) = refl
sum_to (b ∷ truths) zero = refl
sum_to (true ∷ truths) (suc i) = sum_by-cons (λ n. n) 1 (take i (counts (map bit truths))) ∙ ap (λ n. 1 + n) (sum_to truths i)
sum_to (false ∷ truths) (suc i) = sum_by-cons (λ n. n) 0 (take i (counts (map bit truths))) ∙ ap (λ n. 0 + n) (sum_to truths i)

one_there : (truths : List Bool) (i : ℕ) → (slice_index (counts (map bit truths)) i == 1) ≡ slice_index_or truths i false
one_there [] i = refl
one_there (true ∷ truths) zero = refl
one_there (false ∷ truths) zero = refl
one_there (b ∷ truths) (suc i) = one_there truths i

next_is : (truths : List Bool) (i : ℕ) → next_index truths i ≡ expanded_index (counts (map bit truths)) i
next_is truths i = rw (one_there truths i, sum_to truths i) refl

-- the next index at each one
pub expanded_answer : (b : ArrayValue) (k count : ℕ) (truths : List Bool) (result : Result ArrayValue OpFault) → count ≡ ones_before truths (length truths)
    → count ≡ slice_index (as_vector count b).shape k
    → IsArrayOrLimit (slice_set (as_vector count b).shape k (length truths)) b.kind (λ index. element_or_fill (as_vector count b) (along_axis_or_none k (next_index truths) index)) result
    → let bits = counts (map bit truths) in IsAnswerOf (expanded (as_vector (sum bits) b) k bits) result
expanded_answer b k count truths result ones long given =
    let bits = counts (map bit truths) in
    let all : sum bits ≡ count = ones_sum truths ∙ sym ones in
    let many : length bits ≡ length truths = length-map (map bit truths) place_number ∙ length-map truths bit in
    let fit : (count == slice_index (as_vector count b).shape k) ≡ true = eq-eqb count (slice_index (as_vector count b).shape k) long in
    rw (all, many, fit) (given (λ index. element_or_fill (as_vector count b) (along_axis_or_none k (expanded_index bits) index))
    (λ index inside. ap (λ i. element_or_fill (as_vector count b) (option_map (slice_set index k) i)) (next_is truths (slice_index index k))))

-- an axis of another length
pub expanded_refused : (b : ArrayValue) (k count : ℕ) (truths : List Bool) → count ≡ ones_before truths (length truths) → (count ≡ slice_index (as_vector count b).shape k → ⊥)
    → let bits = counts (map bit truths) in expanded (as_vector (sum bits) b) k bits ≡ Err Length
expanded_refused b k count truths ones other =
    let bits = counts (map bit truths) in
    let all : sum bits ≡ count = ones_sum truths ∙ sym ones in
    let unfit : (count == slice_index (as_vector count b).shape k) ≡ false = ne_eqb count (slice_index (as_vector count b).shape k) other in
    rw (all, unfit) refl

-- and of a row whose A is such truth values
pub expand_answer : (a b : ArrayValue) (axis : Axis) (r j : ℕ) (truths : List Bool) (result : Result ArrayValue OpFault) → r ≡ max 1 (rank_of b)
    → has_axis axis r ≡ true → j ≡ axis_of axis r → is_list a ≡ true → is_numbers a ≡ true → numbers_of a ≡ map bit truths → length a.ravel ≡ count_of a.shape
    → (let own = counts (map bit truths) in IsAnswerOf (expanded (as_vector (sum own) b) j own) result) → Answers (expand_row a b axis) result
expand_answer a b axis r j truths result rank has j_is list numbers own long given =
    let bits = map place_number (numbers_of a) in
    let same : r ≡ rank_of (as_vector (sum bits) b) = rank ∙ sym (vector_rank (sum bits) b) in
    let there = rw same at has in
    let k_is = rw same at j_is in
    let judged : (is_numbers a && list_all is_bit (numbers_of a)) ≡ true = rw (numbers, own) (truth_bit truths) in
    let many : length bits ≡ size_of a = length-map (numbers_of a) place_number ∙ length-map a.ravel number_of ∙ long in
    rw (there, list, judged) (rw (← own, many, k_is) at given)

-- A that is of numbers which are not all bits
pub expand_refused : (a b : ArrayValue) (axis : Axis) (r : ℕ) → r ≡ max 1 (rank_of b) → has_axis axis r ≡ true → is_list a ≡ true
    → (is_numbers a && list_all is_bit (numbers_of a)) ≡ false → Answers (expand_row a b axis) (Err Domain)
expand_refused a b axis r rank has list none =
    let same : r ≡ rank_of (as_vector (sum (map place_number (numbers_of a))) b) = rank ∙ sym (vector_rank (sum (map place_number (numbers_of a))) b) in
    let there = rw same at has in
    rw (there, list, none) (inl refl)

-- a shape that is refused
pub shape_refused : (c : ArrayValue) (k extent : ℕ) (counts : List ℕ) (fault : OpFault) (result : Result ArrayValue OpFault) → extent ≡ sum counts → result ≡ Err fault
    → ((fault ≡ Memory) ⊎ ((fault ≡ Limit) × (is_shape (slice_set c.shape k extent) ≡ false))) → IsAnswerOf (replicated c k counts) result
shape_refused c k extent counts fault result same is refused =
    elim refused [
      | inl memory ↦ inr (is ∙ ap Err memory)
      | inr limit ↦ rw (← same, limit.1) (inl (is ∙ ap Err limit.0))
    ]

-- and a sum past the limit, which is refused before
pub sum_refused : (c : ArrayValue) (k : ℕ) (counts : List ℕ) (result : Result ArrayValue OpFault) → k < length c.shape → most_elements < sum counts → result ≡ Err Limit
    → IsAnswerOf (replicated c k counts) result
sum_refused c k counts result axis past is = rw (shape_past c.shape k (sum counts) axis past) (inl is)

-- one count for all n indexes
pub record IsCount (n : ℕ) (z : ℤ) : Type 0 where
  pub natural : is_natural z ≡ true
  pub cast : nat_abs (to_z w64 (of_z w64 z)) ≡ place_number z
  pub sum_is : sum (replicate n (place_number z)) ≡ n * nat_abs (to_z w64 (of_z w64 z))

pub is_count : (n : ℕ) (z : ℤ) → to_z w64 (of_z w64 z) ≡ z → int_lt (to_z w64 (of_z w64 z)) (pos 0) ≡ false → IsCount n z
is_count n z turned least =
    let natural : is_natural z ≡ true = natural_is z turned least in
    let cast : nat_abs (to_z w64 (of_z w64 z)) ≡ place_number z = cast_is z natural turned in
    record { natural = natural; cast = cast; sum_is = sum_by-replicate (λ m. m) n (place_number z) ∙ ap (λ m. n * m) (sym cast) }
