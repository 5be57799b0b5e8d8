-- How `p` pieces are shared out among `n` tasks, and where pieces and shares begin.
use Rattle.std.proofs.Common.{◌≡◌, ◌≤◌, ◌<◌, ◌+◌, ◌-◌, ◌*◌, ◌/◌, ℕ, zero, suc, List, [], ◌∷◌, ◌++◌, slice_index, refl, ap, ◌∙◌, ⊎_elim, arith}
use Rattle.std.proofs.Math.Nat.{div-mul-le_self, div-le_of_le-mul, mul-le-mul_right, mul_comm}
use Rattle.std.proofs.lemmas.Nat.{le-div}
use Rattle.std.proofs.lemmas.List.{length_push, get_or_push, get_or_append_left}
use Rattle.std.proofs.lemmas.Bool.{cases_lt}
use Rattle.apl_pool.specs.Parts.{AreBounds}

-- a later task begins at no earlier piece
pub share_order : (t u p n : ℕ) → 0 < n → t ≤ u → t * p / n ≤ u * p / n
share_order t u p n some order =
    let below : t * p / n * n ≤ t * p = div-mul-le_self (t * p) n in
    let more : t * p ≤ u * p = mul-le-mul_right p order in
    le-div (t * p / n) (u * p) n some (omega (arith, below, more))

pub share_within : (t p n : ℕ) → t ≤ n → t * p / n ≤ p
share_within t p n order = div-le_of_le-mul n (mul-le-mul_right p order)

-- the last task ends with the last piece
pub share_all : (p n : ℕ) → 0 < n → n * p / n ≡ p
share_all p n some =
    let low : n * p / n ≤ p = div-le_of_le-mul n (mul-le-mul_right p (omega arith)) in
    let same : p * n ≡ n * p = mul_comm p n in
    let high : p ≤ n * p / n = le-div p (n * p) n some (omega (arith, same)) in
    omega (arith, low, high)

pub AreBounds-none : AreBounds 0 0 (0 ∷ [])
AreBounds-none = record { len = refl; first = refl; last = refl; rising = λ k inside. absurd (omega arith) }

-- one more stretch, which ends at `to`
pub AreBounds-more : (tasks more place to : ℕ) (bounds : List ℕ) → more ≡ tasks + 1 → place ≤ to → AreBounds tasks place bounds → AreBounds more to (bounds ++ to ∷ [])
AreBounds-more tasks more place to bounds is order so_far = record {
  len = omega (arith, length_push bounds to, so_far.len);
  first = get_or_append_left bounds (to ∷ []) 0 0 (omega (arith, so_far.len)) ∙ so_far.first;
  last = get_or_push bounds to 0 more (omega (arith, so_far.len));
  rising = λ k inside.
      ⊎_elim
      (λ below.
      let here = get_or_append_left bounds (to ∷ []) 0 k (omega (arith, so_far.len)) in
      let next = get_or_append_left bounds (to ∷ []) 0 (k + 1) (omega (arith, so_far.len)) in
      omega (arith, here, next, so_far.rising k below))
      (λ above.
      let e : k ≡ tasks = omega arith in
      let here = get_or_append_left bounds (to ∷ []) 0 k (omega (arith, so_far.len)) in
      let next = get_or_push bounds to 0 (k + 1) (omega (arith, so_far.len)) in
      let at : slice_index bounds k ≡ place = ap (slice_index bounds) e ∙ so_far.last in
      omega (arith, here, next, at))
      (cases_lt k tasks);
}

bounds_apart : (tasks count : ℕ) (bounds : List ℕ) → AreBounds tasks count bounds → (j n : ℕ) → j + n ≤ tasks → slice_index bounds j ≤ slice_index bounds (j + n)
bounds_apart tasks count bounds are j zero inside = let e : j + 0 ≡ j = omega arith in rw e (omega arith)
bounds_apart tasks count bounds are j (suc n) inside =
    let before = bounds_apart tasks count bounds are j n (omega arith) in
    let step = are.rising (j + n) (omega arith) in
    let same : j + n + 1 ≡ j + suc n = omega arith in
    let step' = rw same at step in
    omega (arith, before, step')

-- no stretch ends behind the places
pub bounds_within : (tasks count : ℕ) (bounds : List ℕ) → AreBounds tasks count bounds → (k : ℕ) → k ≤ tasks → slice_index bounds k ≤ count
bounds_within tasks count bounds are k inside =
    let same : k + (tasks - k) ≡ tasks = omega arith in
    let apart = rw same at (bounds_apart tasks count bounds are k (tasks - k) (omega arith)) in
    omega (arith, apart, are.last)

-- a later piece begins at no earlier place
pub bounds_order : (tasks count : ℕ) (bounds : List ℕ) → AreBounds tasks count bounds → (j k : ℕ) → j ≤ k → k ≤ tasks → slice_index bounds j ≤ slice_index bounds k
bounds_order tasks count bounds are j k order inside =
    let same : j + (k - j) ≡ k = omega arith in
    rw same at (bounds_apart tasks count bounds are j (k - j) (omega arith))

-- a later share begins at no earlier place
pub starts_order : (p count : ℕ) (bounds : List ℕ) → AreBounds p count bounds → (t u n : ℕ) → 0 < n → t ≤ u → u ≤ n → slice_index bounds (t * p / n) ≤ slice_index bounds (u * p / n)
starts_order p count bounds are t u n some order inside =
    bounds_order p count bounds are (t * p / n) (u * p / n) (share_order t u p n some order) (share_within u p n inside)

-- the first piece
pub AreBounds-one : (end : ℕ) → AreBounds 1 end (0 ∷ end ∷ [])
AreBounds-one end = AreBounds-more 0 1 0 end (0 ∷ []) (omega arith) (omega arith) AreBounds-none
