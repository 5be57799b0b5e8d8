-- The elements that the indexes of an axis take.
use Rattle.std.proofs.Common.{◌≡◌, ℕ, ◌+◌, ◌-◌, ◌*◌, ◌/◌, ◌<◌, ◌≤◌, List, length, slice_index_or, drop, refl, sym, ap, ◌∙◌, arith, inl, inr, rules, take, div-add-mod', mul-le-mul_right, lt_of_mul-lt-mul_right}
use Rattle.std.specs.Prelude.{min, Option, Some, None}
use Rattle.std.proofs.lemmas.List.{get_or_default, places}
use Rattle.std.proofs.lemmas.Bool.Decides.{nat_tests}
use Rattle.std.proofs.lemmas.Bool.{le-leb, le-ltb, lt-leb, lt-ltb, cases_lt}
use Rattle.apl_walk.specs.declared.map.TheConstants.{MOST_STEP}
use Rattle.apl_walk.specs.declared.window.Window.{Window}
use Rattle.apl_walk.specs.Gathered.{value_or}
use Rattle.apl_walk.specs.Steps.{window_step, reversed_step, rotated_step, repeated_step, wrapped, BeginsWith}

-- what is left of a list from a place on
rest_at : {T : Type 0} (xs : List T) (a k : ℕ) (d : T) → slice_index_or (take (length xs - a) (drop a xs)) k d ≡ slice_index_or xs (a + k) d
rest_at xs a k d = search (rules, places)

-- a room with the elements that some indexes take
pub values_taken : {T : Type 0} (line room : List T) (fill : T) (step : ℕ → Option ℕ) (place : ℕ → ℕ) (count : ℕ)
    → ((k : ℕ) → k < count → step k ≡ Some (place k)) → ((k : ℕ) → k < count → place k < length line)
    → ((k : ℕ) (d : T) → k < count → slice_index_or room k d ≡ slice_index_or line (place k) d)
    → BeginsWith (λ k. value_or line fill (step k)) count room
values_taken line room fill step place count is within each = record {
  each = λ k d inside. ap (value_or line fill) (is k inside) ∙ get_or_default line (place k) fill d (within k inside) ∙ sym (each k d inside);
}

-- ---- windows

pub window_within : (from to start stride i : ℕ) → from ≤ i → i < to → window_step from to start stride i ≡ Some ((i + start - from) * stride)
window_within from to start stride i low high = rw (le-leb from i low, lt-ltb i to high) refl

pub window_before : (from to start stride i : ℕ) → i < from → window_step from to start stride i ≡ None
window_before from to start stride i low = rw (lt-leb from i low) refl

pub window_after : (from to start stride i : ℕ) → from ≤ i → to ≤ i → window_step from to start stride i ≡ None
window_after from to start stride i low high = rw (le-leb from i low, le-ltb i to high) refl

-- a step is no longer than the last one
pub step_reach : (from to start stride i : ℕ) → from ≤ i → i < to → (i + start - from) * stride ≤ (to + start - (from + 1)) * stride
step_reach from to start stride i low high = mul-le-mul_right stride (omega arith)

pub step_most : (w : Window) (x : ℕ) → x ≤ w.to + w.start - (w.from + 1) → x * w.stride ≤ MOST_STEP
step_most w x less =
    elim (cases_lt 0 x) [
      | inl some ↦ omega (arith, mul-le-mul_right {m = x + w.from} {n = w.to + w.start} w.stride (omega (arith, some, less)), w.end_near)
      | inr none ↦ let zero : x ≡ 0 = omega (arith, none) in rw zero (omega arith)
    ]

-- k strides on
pub window_further : (from start stride f k : ℕ) → from ≤ f → (f + start - from) * stride + k * stride ≡ (f + k + start - from) * stride
window_further from start stride f k low =
    let whole : f + start - from + k ≡ f + k + start - from = omega arith in
    omega arith ∙ ap (λ n. n * stride) whole

pub values_within : {T : Type 0} (line room : List T) (fill : T) (from to start stride f count : ℕ) → from ≤ f → f + count ≤ to → (to + start - (from + 1)) * stride < length line
    → ((k : ℕ) (d : T) → k < count → slice_index_or room k d ≡ slice_index_or (take (length line - (f + start - from) * stride) (drop ((f + start - from) * stride) line)) (k * stride) d)
    → BeginsWith (λ k. value_or line fill (window_step from to start stride (f + k))) count room
values_within line room fill from to start stride f count low high near each =
    values_taken line room fill (λ k. window_step from to start stride (f + k)) (λ k. (f + k + start - from) * stride) count
    (λ k inside. window_within from to start stride (f + k) (omega arith) (omega arith))
    (λ k inside. omega (arith, step_reach from to start stride (f + k) (omega arith) (omega arith), near))
    (λ k d inside. each k d inside ∙ rest_at line ((f + start - from) * stride) (k * stride) d ∙ ap (λ p. slice_index_or line p d) (window_further from start stride f k low))

-- ---- the last index first

pub values_back : {T : Type 0} (line room : List T) (fill : T) (extent stride f count : ℕ) → f + count ≤ extent → (extent - 1) * stride < length line
    → ((k : ℕ) (d : T) → k < count → slice_index_or room k d ≡ slice_index_or line ((extent - 1 - f) * stride - k * stride) d)
    → BeginsWith (λ k. value_or line fill (reversed_step extent stride (f + k))) count room
values_back line room fill extent stride f count within near each =
    values_taken line room fill (λ k. reversed_step extent stride (f + k)) (λ k. (extent - 1 - (f + k)) * stride) count (λ k inside. refl)
    (λ k inside. omega (arith, mul-le-mul_right {m = extent - 1 - (f + k)} {n = extent - 1} stride (omega arith), near))
    (λ k d inside.
    let whole : extent - 1 - (f + k) + k ≡ extent - 1 - f = omega arith in
    let split : (extent - 1 - (f + k)) * stride + k * stride ≡ (extent - 1 - f) * stride = omega arith ∙ ap (λ n. n * stride) whole in
    each k d inside ∙ ap (λ p. slice_index_or line p d) (omega (arith, split)))

-- ---- indexes counted round

wrapped_most : (n j : ℕ) → j < n + n → wrapped n j ≤ n - 1
wrapped_most n j most = grind (arith, nat_tests)

-- k indexes on, before the last one and past it
wrapped_before : (n j k start m : ℕ) → start ≡ wrapped n j → m ≡ j + k → start + k < n → start + k ≡ wrapped n m
wrapped_before n j k start m start_is there short = grind (arith, nat_tests)

wrapped_past : (n j k start m : ℕ) → start ≡ wrapped n j → m ≡ j + k → n ≤ start + k → m < n + n → start + k - n ≡ wrapped n m
wrapped_past n j k start m start_is there far most = grind (arith, nat_tests)

-- the indexes up to the last one, and then those from the first one on
pub values_rotated : {T : Type 0} (line room : List T) (fill : T) (extent by stride f count start first : ℕ) → f + count ≤ extent → by ≤ extent
    → (extent - 1) * stride < length line → start ≡ wrapped extent (f + by) → first ≡ min count (extent - start)
    → ((k : ℕ) (d : T) → k < first → slice_index_or room k d ≡ slice_index_or (take (length line - start * stride) (drop (start * stride) line)) (k * stride) d)
    → ((k : ℕ) (d : T) → k < count - first → slice_index_or room (first + k) d ≡ slice_index_or line (k * stride) d)
    → BeginsWith (λ k. value_or line fill (rotated_step extent by stride (f + k))) count room
values_rotated line room fill extent by stride f count start first within below near start_is first_is front back =
    values_taken line room fill (λ k. rotated_step extent by stride (f + k)) (λ k. wrapped extent (f + k + by) * stride) count (λ k inside. refl)
    (λ k inside. omega (arith, mul-le-mul_right stride (wrapped_most extent (f + k + by) (omega arith)), near))
    (λ k d inside.
    elim (cases_lt k first) [
      | inl here ↦
          let there : start + k ≡ wrapped extent (f + k + by) = wrapped_before extent (f + by) k start (f + k + by) start_is (omega arith) (omega (arith, first_is, here)) in
          let split : start * stride + k * stride ≡ (start + k) * stride = omega arith in
          front k d here ∙ rest_at line (start * stride) (k * stride) d ∙ ap (λ p. slice_index_or line p d) (split ∙ ap (λ n. n * stride) there)
      | inr later ↦
          let start_most : start ≤ extent - 1 = omega (arith, wrapped_most extent (f + by) (omega (arith, inside))) in
          let passed = wrapped_past extent (f + by) k start (f + k + by) start_is (omega arith) (omega (arith, first_is, later, inside)) (omega (arith, inside)) in
          let there : k - first ≡ wrapped extent (f + k + by) = omega (arith, passed, first_is, later, inside) in
          ap (λ p. slice_index_or room p d) (omega (arith, later)) ∙ back (k - first) d (omega (arith, later, inside)) ∙ ap (λ n. slice_index_or line (n * stride) d) there
    ])

-- ---- indexes that come several times

pub index_within : (index times stride axis_length size : ℕ) → index * times < axis_length * times → (axis_length - 1) * stride < size → index * stride < size
index_within index times stride axis_length size inside near =
    let less : index ≤ axis_length - 1 = omega (arith, lt_of_mul-lt-mul_right times inside) in
    omega (arith, mul-le-mul_right stride less, near)

pub values_repeated : {T : Type 0} (line room : List T) (fill : T) (times stride axis_length f count : ℕ) → 0 < times → f + count ≤ axis_length * times
    → (axis_length - 1) * stride < length line
    → ((k : ℕ) (d : T) → k < count → slice_index_or room k d ≡ slice_index_or line ((f + k) / times * stride) d)
    → BeginsWith (λ k. value_or line fill (repeated_step times stride (f + k))) count room
values_repeated line room fill times stride axis_length f count some within near =
    values_taken line room fill (λ k. repeated_step times stride (f + k)) (λ k. (f + k) / times * stride) count (λ k inside. refl)
    (λ k inside. index_within ((f + k) / times) times stride axis_length (length line) (omega (arith, div-add-mod' (f + k) times)) near)
