-- How many truth values are true, of one more and of one run after another.
use Rattle.std.proofs.Common.{◌≡◌, ℕ, zero, suc, ◌+◌, ◌≤◌, Bool, true, false, List, [], ◌∷◌, refl, ap, ◌∙◌, slice_index_or, arith}
use Rattle.apl_walk.specs.Ones.{one_of, ones_before}
use Rattle.apl_reduce.specs.Ones.{ones}

one_most : (b : Bool) → one_of b ≤ 1
one_most true = omega arith
one_most false = omega arith

module _ (truths : List Bool) where
  pub ones_none : (first : ℕ) → ones truths first 0 ≡ 0
  unfolding ones
  ones_none first = refl

  pub ones_suc : (first n : ℕ) → ones truths first (suc n) ≡ ones truths first n + one_of (slice_index_or truths (first + n) false)
  unfolding ones
  ones_suc first n = refl

  pub ones_more : (first n : ℕ) → ones truths first (n + 1) ≡ ones truths first n + one_of (slice_index_or truths (first + n) false)
  ones_more first n = let next : n + 1 ≡ suc n = omega arith in ap (ones truths first) next ∙ ones_suc first n

  pub ones_most : (first n : ℕ) → ones truths first n ≤ n
  ones_most first zero = omega (arith, ones_none first)
  ones_most first (suc n) = omega (arith, ones_suc first n, ones_most first n, one_most (slice_index_or truths (first + n) false))

  -- two runs, one after the other
  pub ones_of_runs : (first m n : ℕ) → ones truths first (m + n) ≡ ones truths first m + ones truths (first + m) n
  ones_of_runs first m zero =
      let same : m + zero ≡ m = omega arith in
      let none = ones_none (first + m) in
      ap (ones truths first) same ∙ omega (arith, none)
  ones_of_runs first m (suc n) =
      let next : m + suc n ≡ suc (m + n) = omega arith in
      let place : first + (m + n) ≡ first + m + n = omega arith in
      let more = ones_suc (first + m) n in
      let here = ap (λ p. one_of (slice_index_or truths p false)) place in
      ap (ones truths first) next ∙ ones_suc first (m + n) ∙ omega (arith, ones_of_runs first m n, more, here)

-- ---- how many are true before a place

before_none : (truths : List Bool) → ones_before truths 0 ≡ 0
before_none [] = refl
before_none (b ∷ truths) = refl

before_more : (truths : List Bool) (i : ℕ) → ones_before truths (suc i) ≡ ones_before truths i + one_of (slice_index_or truths i false)
before_more [] i = refl
before_more (b ∷ truths) zero = omega (arith, before_none truths)
before_more (b ∷ truths) (suc i) = omega (arith, before_more truths i)

pub before_run : (truths : List Bool) (first n : ℕ) → ones_before truths (first + n) ≡ ones_before truths first + ones truths first n
before_run truths first zero =
    let same : first + zero ≡ first = omega arith in
    ap (ones_before truths) same ∙ omega (arith, ones_none truths first)
before_run truths first (suc n) =
    let next : first + suc n ≡ suc (first + n) = omega arith in
    ap (ones_before truths) next ∙ omega (arith, before_more truths (first + n), before_run truths first n, ones_suc truths first n)
