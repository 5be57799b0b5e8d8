-- Running sums: none of them is refused exactly where each sum of consecutive items is in the range.
use Rattle.std.proofs.Common.{◌≡◌, ℕ, zero, suc, ℤ, pos, ◌+ℤ◌, Bool, true≢false, cond, List, [], ◌∷◌, ◌++◌, length, take, Result, Ok, Err, refl, sym, ap, ◌∙◌, subst, inl, inr, ⊎_elim, arith}
use Rattle.std.specs.Prelude.{◌⊎◌, All, IsOk}
use Rattle.std.proofs.lemmas.Int.{ints}
use Rattle.apl_array.specs.declared.function.ScalarFunction.TheVariants.{Plus}
use Rattle.apl_array.specs.Range.{in_range}
use Rattle.apl_pool.specs.declared.kernel.Fault.{Fault}
use Rattle.apl_pool.specs.declared.kernel.Fault.TheVariants.{Limit}
use Rattle.apl_pool.specs.Summaries.{IsI64, and_then, fold_onto}
use Rattle.apl_scalar.specs.Scalar.{dyadic_numbers}
use Rattle.apl_summary.specs.ConsecutiveSums.{total, IsLawful, HasSums}
use Rattle.apl_summary.proofs.SignedSums.{by_test, in_range_true, in_range_is}

abbrev plus : ℤ → ℤ → Result ℤ Fault
plus = dyadic_numbers Plus

fails : (z : Result ℤ Fault) (fault : Fault) → z ≡ Err fault → IsOk z → ⊥
fails (Ok v) fault e ok = absurd (cc)
fails (Err f) fault e ok = true≢false (sym ok)

is_value : (z : Result ℤ Fault) (v : ℤ) → z ≡ Ok v → IsOk z
is_value (Ok w) v e = refl
is_value (Err f) v e = absurd (cc)

-- one more item on the left of a sum
added : (x z : ℤ) → IsI64 (x +ℤ z) → plus x z ≡ Ok (x +ℤ z)
added x z h = ap (λ (b : Bool). cond b (Ok (x +ℤ z)) (Err Limit)) (in_range_true (x +ℤ z) h)

within : (x z : ℤ) → IsOk (plus x z) → IsI64 (x +ℤ z)
within x z ok =
    by_test (in_range (x +ℤ z)) (IsI64 (x +ℤ z)) (in_range_is (x +ℤ z))
    (λ e. absurd (fails (plus x z) Limit (ap (λ (b : Bool). cond b (Ok (x +ℤ z)) (Err Limit)) e) ok))

-- a fold that is a value is the total
is_total : (before : List ℤ) (last : ℤ) → IsOk (fold_onto plus before last) → fold_onto plus before last ≡ Ok (total (before ++ last ∷ []))
is_total [] last ok = ap (λ (z : ℤ). Ok z) (omega (arith, ints))
is_total (x ∷ before) last ok = next (fold_onto plus before last) refl (is_total before last) where
  next : (z : Result ℤ Fault) → fold_onto plus before last ≡ z → (IsOk (fold_onto plus before last) → fold_onto plus before last ≡ Ok (total (before ++ last ∷ [])))
      → fold_onto plus (x ∷ before) last ≡ Ok (total ((x ∷ before) ++ last ∷ []))
  next (Ok v) e rest =
      let here : fold_onto plus (x ∷ before) last ≡ plus x (total (before ++ last ∷ [])) = ap (λ z. and_then z (plus x)) (rest (is_value _ v e)) in
      here ∙ added x (total (before ++ last ∷ [])) (within x (total (before ++ last ∷ [])) (subst IsOk here ok))
  next (Err fault) e rest = absurd (fails (fold_onto plus (x ∷ before) last) fault (ap (λ z. and_then z (plus x)) e) ok)

tail_is_value : (x : ℤ) (before : List ℤ) (last : ℤ) → IsOk (fold_onto plus (x ∷ before) last) → IsOk (fold_onto plus before last)
tail_is_value x before last ok = next (fold_onto plus before last) refl where
  next : (z : Result ℤ Fault) → fold_onto plus before last ≡ z → IsOk (fold_onto plus before last)
  next (Ok v) e = is_value _ v e
  next (Err fault) e = absurd (fails (fold_onto plus (x ∷ before) last) fault (ap (λ z. and_then z (plus x)) e) ok)

total_is_within : (x : ℤ) (before : List ℤ) (last : ℤ) → IsOk (fold_onto plus (x ∷ before) last) → IsI64 (total ((x ∷ before) ++ last ∷ []))
total_is_within x before last ok =
    let rest = is_total before last (tail_is_value x before last ok) in
    within x (total (before ++ last ∷ [])) (subst IsOk (ap (λ z. and_then z (plus x)) rest) ok)

-- ---- from lawful lists to their running sums

front : (before : List ℤ) (last : ℤ) (rest : List ℤ) → take (suc (length before)) (before ++ last ∷ rest) ≡ before ++ last ∷ []
front [] last rest = refl
front (x ∷ before) last rest = ap (λ xs. x ∷ xs) (front before last rest)

sum_of_front : (before : List ℤ) (last : ℤ) (rest : List ℤ) → IsLawful (before ++ last ∷ rest) → IsOk (fold_onto plus before last)
sum_of_front [] last rest lawful = refl
sum_of_front (x ∷ before) last rest lawful =
    let tail = sum_of_front before last rest (λ from count. lawful (suc from) count) in
    let all : IsI64 (total ((x ∷ before) ++ last ∷ [])) = subst (λ xs. IsI64 (total xs)) (front (x ∷ before) last rest) (lawful 0 (suc (length (x ∷ before)))) in
    is_value _ (x +ℤ total (before ++ last ∷ [])) (ap (λ z. and_then z (plus x)) (is_total before last tail) ∙ added x (total (before ++ last ∷ [])) all)

pub sums_if_lawful : (xs : List ℤ) → IsLawful xs → HasSums xs
sums_if_lawful xs lawful = λ before last rest is. sum_of_front before last rest (subst IsLawful is lawful)

-- ---- and back

-- a beginning, which is empty or ends with an item
record EndsWith (xs front : List ℤ) : Type 0 where
  pub before : List ℤ
  pub last : ℤ
  pub rest : List ℤ
  pub all : xs ≡ before ++ last ∷ rest
  pub is : front ≡ before ++ last ∷ []

beginning : (xs : List ℤ) (n : ℕ) → (take n xs ≡ []) ⊎ EndsWith xs (take n xs)
beginning xs zero = inl refl
beginning [] (suc n) = inl refl
beginning (x ∷ xs) (suc n) =
    ⊎_elim
    (λ none. inr (record { before = []; last = x; rest = xs; all = refl; is = ap (λ ys. x ∷ ys) none }))
    (λ e. inr (record { before = x ∷ e.before; last = e.last; rest = e.rest; all = ap (λ ys. x ∷ ys) e.all; is = ap (λ ys. x ∷ ys) e.is }))
    (beginning xs n)

zero_within : IsI64 (pos 0)
zero_within = (omega (arith, ints), omega (arith, ints))

none_within : (n : ℕ) → IsI64 (total (take n []))
none_within zero = zero_within
none_within (suc n) = zero_within

one_within : (x : ℤ) → IsI64 x → IsI64 (total (x ∷ []))
one_within x h = subst IsI64 (omega (arith, ints)) h

beginning_within : (xs : List ℤ) (n : ℕ) → All IsI64 xs → HasSums xs → IsI64 (total (take n xs))
beginning_within xs n items sums =
    ⊎_elim
    (λ none. subst (λ ys. IsI64 (total ys)) (sym none) zero_within)
    (λ e. subst (λ ys. IsI64 (total ys)) (sym e.is) (ended e.before e.last e.rest e.all))
    (beginning xs n)
  where
    ended : (before : List ℤ) (last : ℤ) (rest : List ℤ) → xs ≡ before ++ last ∷ rest → IsI64 (total (before ++ last ∷ []))
    ended [] last rest all = one_within last (subst (All IsI64) all items 0 last (omega arith))
    ended (x ∷ before) last rest all = total_is_within x before last (sums (x ∷ before) last rest all)

sums_of_tail : (x : ℤ) (xs : List ℤ) → HasSums (x ∷ xs) → HasSums xs
sums_of_tail x xs sums = λ before last rest is. tail_is_value x before last (sums (x ∷ before) last rest (ap (λ ys. x ∷ ys) is))

pub lawful_if_sums : (xs : List ℤ) → All IsI64 xs → HasSums xs → IsLawful xs
lawful_if_sums xs items sums zero count = beginning_within xs count items sums
lawful_if_sums [] items sums (suc from) count = none_within count
lawful_if_sums (x ∷ xs) items sums (suc from) count = lawful_if_sums xs (λ i d inside. items (suc i) d (omega (arith, inside))) (sums_of_tail x xs sums) from count
