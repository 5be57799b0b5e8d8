-- Totals of columns of numbers near 0, row by row.
use Rattle.std.proofs.Common.{◌≡◌, ℕ, zero, suc, ℤ, pos, neg_ℤ, ◌+ℤ◌, ◌-ℤ◌, ◌≤ℤ◌, ◌+◌, ◌-◌, ◌*◌, ◌/◌, ◌%◌, ◌^◌, ◌<◌, ◌≤◌, Bool, true, false, not, nat_eq, List, [], ◌∷◌, ◌++◌, length, Ok, slice_index_or, bit_or, refl, sym, ap, subst, ◌∙◌, ⊎_elim, arith}
use Rattle.std.proofs.lemmas.Bool.{cases_lt}
use Rattle.std.proofs.lemmas.Int.{ints}
use Rattle.std.proofs.lemmas.Nat.{le_or_l, le_or_r}
use Rattle.std.proofs.lemmas.List.{get_or_append_left, get_or_push, length_push}
use Rattle.apl_pool.specs.Summaries.{IsI64, fold_onto}
use Rattle.apl_scalar.specs.Scalar.{dyadic_numbers}
use Rattle.apl_summary.specs.Columns.{column, column_before, AreColumnFolds}
use Rattle.apl_summary.specs.Constants.{signed_function}
use Rattle.apl_summary.specs.Fronts.{signed_total, IsBoundedSum}
use Rattle.apl_summary.specs.NearTotals.{sign_after, IsNearTotal, IsNearFold, AreNearFolds, IsRow}
use Rattle.apl_summary.proofs.ColumnFolds.{row_of, next_of_column}
use Rattle.apl_summary.proofs.Fronts.{next_sign, bounded_value, bounded_front}

-- ---- one number more

-- a number that is near 0
pub record IsNear (x : ℤ) : Type 0 where
  pub low : neg_ℤ (pos 4294967296) ≤ℤ x
  pub high : x ≤ℤ pos 4294967296

pub near_from_above : (above : ℕ) (x : ℤ) → above < 2 ^ 33 → pos above ≡ x +ℤ pos (2 ^ 32) → IsNear x
near_from_above above x low is = record { low = omega (arith, ints, is); high = omega (arith, ints, low, is) }

pub both_low : (m n : ℕ) → bit_or m n < 2 ^ 33 → (m < 2 ^ 33) × (n < 2 ^ 33)
both_low m n low = (omega (arith, low, le_or_l m n), omega (arith, low, le_or_r m n))

sign_turns : (n : ℕ) → not (nat_eq (n % 2) 1) ≡ nat_eq ((n + 1) % 2) 1
sign_turns n =
    ⊎_elim
    (λ even. let here : n % 2 ≡ 0 = omega (arith, even) in let next : (n + 1) % 2 ≡ 1 = omega (arith, even) in rw (here, next) refl)
    (λ odd. let here : n % 2 ≡ 1 = omega (arith, odd) in let next : (n + 1) % 2 ≡ 0 = omega (arith, odd) in rw (here, next) refl)
    (cases_lt (n % 2) 1)

next_sign_is : (is_plus : Bool) (n : ℕ) → next_sign is_plus (sign_after is_plus n) ≡ sign_after is_plus (n + 1)
next_sign_is true n = refl
next_sign_is false n = sign_turns n

abbrev slack_after : ℕ → ℤ
slack_after n = pos 9223372036854775807 -ℤ pos (n * 4294967296)

pub record IsNextTotal (is_plus : Bool) (old x : ℤ) (numbers : List ℤ) : Type 0 where
  pub fits : IsI64 (signed_total (sign_after is_plus (length numbers)) old x)
  pub fold : fold_onto (dyadic_numbers (signed_function is_plus)) numbers x ≡ Ok (signed_total (sign_after is_plus (length numbers)) old x)
  pub total : IsNearTotal is_plus (signed_total (sign_after is_plus (length numbers)) old x) (numbers ++ x ∷ [])

total_near : (is_negated : Bool) (total x : ℤ) (n : ℕ) → IsNear x → neg_ℤ (pos (n * 4294967296)) ≤ℤ total → total ≤ℤ pos (n * 4294967296)
    → (neg_ℤ (pos ((n + 1) * 4294967296)) ≤ℤ signed_total is_negated total x) × (signed_total is_negated total x ≤ℤ pos ((n + 1) * 4294967296))
total_near true total x n near least greatest = (omega (arith, ints, near.low, near.high, least), omega (arith, ints, near.low, near.high, greatest))
total_near false total x n near least greatest = (omega (arith, ints, near.low, near.high, least), omega (arith, ints, near.low, near.high, greatest))

near_fits : (z : ℤ) (n : ℕ) → n ≤ 1073741824 → neg_ℤ (pos (n * 4294967296)) ≤ℤ z → z ≤ℤ pos (n * 4294967296) → IsI64 z
near_fits z n few least greatest = (omega (arith, ints, few, least), omega (arith, ints, few, greatest))

pub next_total : (is_plus : Bool) (total x : ℤ) (numbers : List ℤ) → length numbers < 1073741824 → IsNear x → IsNearTotal is_plus total numbers → IsNextTotal is_plus total x numbers
next_total is_plus total x numbers few near is =
    let n = length numbers in
    let sign = sign_after is_plus n in
    let slack = slack_after n in
    let longer : length (numbers ++ x ∷ []) ≡ n + 1 = length_push numbers x in
    let bounds = total_near sign total x n near is.least is.greatest in
    let room : pos 4294967296 ≤ℤ slack = omega (arith, ints, few) in
    let most : slack ≤ℤ pos 9223372036854775807 = omega (arith, ints) in
    let less : slack -ℤ pos 4294967296 ≡ slack_after (n + 1) = omega (arith, ints) in
    record {
      fits = near_fits (signed_total sign total x) (n + 1) (omega (arith, few)) bounds.0 bounds.1;
      fold = bounded_value is_plus sign total slack (pos 4294967296) x numbers room near.low near.high is.sum;
      total = record {
        sum = subst (λ m. IsBoundedSum is_plus (sign_after is_plus m) (signed_total sign total x) (slack_after m) (numbers ++ x ∷ [])) (sym longer)
            (subst (λ s. IsBoundedSum is_plus (sign_after is_plus (n + 1)) (signed_total sign total x) s (numbers ++ x ∷ [])) less
            (subst (λ b. IsBoundedSum is_plus b (signed_total sign total x) (slack -ℤ pos 4294967296) (numbers ++ x ∷ [])) (next_sign_is is_plus n)
            (bounded_front is_plus sign total slack (pos 4294967296) x numbers most near.low near.high is.sum)));
        least = subst (λ m. neg_ℤ (pos (m * 4294967296)) ≤ℤ signed_total sign total x) (sym longer) bounds.0;
        greatest = subst (λ m. signed_total sign total x ≤ℤ pos (m * 4294967296)) (sym longer) bounds.1;
      };
    }

-- ---- the first number of a column

no_total : (is_plus : Bool) → IsNearTotal is_plus (pos 0) []
no_total is_plus = record { sum = none is_plus; least = omega (arith, ints); greatest = omega (arith, ints) } where
  added : (right : ℤ) → right ≡ pos 0 +ℤ right
  added right = omega (arith, ints)

  none : (is_plus : Bool) → IsBoundedSum is_plus (sign_after is_plus 0) (pos 0) (slack_after 0) []
  none true = record { only_plus = λ e. refl; adds = λ right low high. ap (λ (z : ℤ). Ok z) (added right) }
  none false = record { only_plus = λ e. refl; adds = λ right low high. ap (λ (z : ℤ). Ok z) (added right) }

from_none : (is_plus : Bool) (x : ℤ) → signed_total (sign_after is_plus 0) (pos 0) x ≡ x
from_none true x = omega (arith, ints)
from_none false x = omega (arith, ints)

pub first_fold : (is_plus : Bool) (before : ℕ → List ℤ) (numbers : List ℤ) (place : ℕ) → before place ≡ [] → IsNear (slice_index_or numbers place (pos 0))
    → IsNearFold is_plus before numbers place (slice_index_or numbers place (pos 0))
first_fold is_plus before numbers place none near =
    let x : ℤ = slice_index_or numbers place (pos 0) in
    let next = next_total is_plus (pos 0) x [] (omega arith) near (no_total is_plus) in
    record {
      fold = ap (λ l. fold_onto (dyadic_numbers (signed_function is_plus)) l x) none;
      total = subst (λ l. IsNearTotal is_plus x (l ++ x ∷ [])) (sym none) (subst (λ z. IsNearTotal is_plus z (x ∷ [])) (from_none is_plus x) next.total);
    }

pub empty_column : (before : ℕ → List ℤ) (numbers : List ℤ) (start inner c : ℕ) → c < inner → IsRow before numbers start inner 0 → before (start + c) ≡ []
empty_column before numbers start inner c inside row = none (before (start + c)) (row.counted c inside) where
  none : (l : List ℤ) → length l ≡ 0 → l ≡ []
  none [] e = refl
  none (x ∷ l) e = absurd (omega (arith, e))

-- ---- the next number of a column

pub record IsNextFold (is_plus : Bool) (before : ℕ → List ℤ) (numbers : List ℤ) (place : ℕ) (total : ℤ) (count : ℕ) : Type 0 where
  pub fits : IsI64 (signed_total (sign_after is_plus count) total (slice_index_or numbers place (pos 0)))
  pub is : IsNearFold is_plus before numbers place (signed_total (sign_after is_plus count) total (slice_index_or numbers place (pos 0)))

pub next_fold : (is_plus : Bool) (before : ℕ → List ℤ) (numbers : List ℤ) (start inner count c : ℕ) (total : ℤ) → c < inner → 0 < count → count < 1073741824 → IsRow before numbers start inner count
    → IsNear (slice_index_or numbers (start + c) (pos 0)) → IsNearFold is_plus before numbers (start + c - inner) total → IsNextFold is_plus before numbers (start + c) total count
next_fold is_plus before numbers start inner count c total inside some few row near was =
    let x : ℤ = slice_index_or numbers (start + c) (pos 0) in
    let here = before (start + c) in
    let long : length here ≡ count = row.counted c inside in
    let had : IsNearTotal is_plus total here = subst (IsNearTotal is_plus total) (sym (row.goes_on c inside some)) was.total in
    let next = next_total is_plus total x here (subst (λ n. n < 1073741824) (sym long) few) near had in
    record {
      fits = subst (λ n. IsI64 (signed_total (sign_after is_plus n) total x)) long next.fits;
      is = subst (λ n. IsNearFold is_plus before numbers (start + c) (signed_total (sign_after is_plus n) total x)) long (record { fold = next.fold; total = next.total });
    }

-- ---- a row

pub one_more_near : (is_plus : Bool) (before : ℕ → List ℤ) (numbers values : List ℤ) (k : ℕ) (value : ℤ) → length values ≡ k → IsNearFold is_plus before numbers k value
    → AreNearFolds is_plus before numbers k values → AreNearFolds is_plus before numbers (k + 1) (values ++ value ∷ [])
one_more_near is_plus before numbers values k value len is are = λ j d inside.
    ⊎_elim
    (λ less. subst (IsNearFold is_plus before numbers j) (sym (get_or_append_left values (value ∷ []) d j (omega (arith, less, len)))) (are j d less))
    (λ last.
    let same : j ≡ k = omega (arith, inside, last) in
    subst (IsNearFold is_plus before numbers j) (sym (get_or_push values value d j (len ∙ sym same)))
    (subst (λ n. IsNearFold is_plus before numbers n value) (sym same) is))
    (cases_lt j k)

-- ---- rows one after the other

length_column : (numbers : List ℤ) (first inner n : ℕ) → length (column numbers first inner n) ≡ n
length_column numbers first inner zero = refl
length_column numbers first inner (suc n) = ap suc (length_column numbers (first + inner) inner n)

pub row_there : (numbers : List ℤ) (items inner row : ℕ) → 0 < items → IsRow (column_before numbers items inner) numbers (row * inner) inner (row % items)
row_there numbers items inner row some = record {
  counted = λ c inside.
      length_column numbers (row * inner + c - (row * inner + c) / inner % items * inner) inner ((row * inner + c) / inner % items) ∙ ap (λ q. q % items) (row_of inner row c inside);
  goes_on = λ c inside later. past row c inside later;
} where
  past : (row c : ℕ) → c < inner → 0 < row % items → column_before numbers items inner (row * inner + c) ≡ column_before numbers items inner (row * inner + c - inner) ++ slice_index_or numbers (row * inner + c - inner) (pos 0) ∷ []
  past zero c inside later = absurd (omega (arith, later))
  past (suc r) c inside later =
      let more : suc r ≡ r + 1 = omega arith in
      let back : suc r * inner + c - inner ≡ r * inner + c = omega arith in
      let within : (r + 1) % items ≡ 0 → ⊥ = λ is. omega (arith, is, later, ap (λ n. n % items) more) in
      ap (λ n. column_before numbers items inner (n * inner + c)) more
      ∙ sym (next_of_column numbers items inner r c inside some within)
      ∙ ap (λ p. column_before numbers items inner p ++ slice_index_or numbers p (pos 0) ∷ []) (sym back)

pub column_folds : (is_plus : Bool) (numbers values : List ℤ) (items inner count : ℕ) → AreNearFolds is_plus (column_before numbers items inner) numbers count values
    → AreColumnFolds (dyadic_numbers (signed_function is_plus)) numbers items inner count values
column_folds is_plus numbers values items inner count are = λ place d inside. (are place d inside).fold
