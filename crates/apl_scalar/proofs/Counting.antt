-- Factorials, and in how many ways k of n things are chosen.
use Rattle.std.proofs.Common.{◌≡◌, ℕ, zero, suc, ◌+◌, ◌-◌, ◌*◌, ◌/◌, ◌<◌, ◌≤◌, ◌^◌, false, refl, ap, ◌∙◌, ⊎_elim, arith}
use Rattle.std.specs.Prelude.{nat_lt}
use Rattle.std.proofs.Math.Nat.{mul-le-mul, mul-le-mul_left, mul-le-mul_right, le_of_mul-le-mul_right, mul-div_left, mul-div_right, mul-pos}
use Rattle.std.proofs.lemmas.Bool.{cases_lt, le-ltb}
use Rattle.apl_scalar.specs.Arithmetic.{factorial, binomial}

pub factorial_pos : (n : ℕ) → 0 < factorial n
factorial_pos zero = omega arith
factorial_pos (suc n) = omega (arith, mul-le-mul_right (factorial n) (let h : 1 ≤ suc n = omega arith in h), factorial_pos n)

pub factorial_rises : (n j : ℕ) → factorial n ≤ factorial (n + j)
factorial_rises n zero = let e : n + 0 ≡ n = omega arith in rw e (omega arith)
factorial_rises n (suc j) =
    let e : n + suc j ≡ suc (n + j) = omega arith in
    let rest = factorial_rises n j in
    let one : 1 ≤ suc (n + j) = omega arith in
    rw e (omega (arith, rest, mul-le-mul_right (factorial (n + j)) one))

-- by Pascal's rule
abbrev pub choose : ℕ → ℕ → ℕ
choose n zero = 1
choose zero (suc k) = 0
choose (suc n) (suc k) = choose n k + choose n (suc k)

choose-past : (n k : ℕ) → n < k → choose n k ≡ 0
choose-past n zero h = absurd (omega arith)
choose-past zero (suc k) h = refl
choose-past (suc n) (suc k) h = omega (arith, choose-past n k (omega arith), choose-past n (suc k) (omega arith))

pascal_sum : (a b k F m G N : ℕ) → a * (F * (m * G)) ≡ N → b * (suc k * F * G) ≡ N → (a + b) * (suc k * F * (m * G)) ≡ (k + 1 + m) * N
pascal_sum a b k F m G N left right = omega (arith, ap (λ x. (k + 1) * x) left, ap (λ x. m * x) right)

pascal_end : (a b k F N : ℕ) → a * (F * 1) ≡ N → b ≡ 0 → (a + b) * (suc k * F * 1) ≡ (k + 1) * N
pascal_end a b k F N left none = rw none (omega (arith, ap (λ x. (k + 1) * x) left))

pub choose-factorial : (n k : ℕ) → k ≤ n → choose n k * (factorial k * factorial (n - k)) ≡ factorial n
choose-factorial n zero h = let e : n - 0 ≡ n = omega arith in rw e (omega arith)
choose-factorial zero (suc k) h = absurd (omega arith)
choose-factorial (suc n) (suc k) h =
    let left = choose-factorial n k (omega arith) in
    ⊎_elim
    (λ below.
    let right = choose-factorial n (suc k) (omega arith) in
    let inner : n - k ≡ suc (n - suc k) = omega arith in
    let outer : suc n - suc k ≡ suc (n - suc k) = omega arith in
    let left' = rw inner at left in
    let whole : k + 1 + suc (n - suc k) ≡ suc n = omega arith in
    let sum = pascal_sum (choose n k) (choose n (suc k)) k (factorial k) (suc (n - suc k)) (factorial (n - suc k)) (factorial n) left' right in
    rw outer (sum ∙ ap (λ x. x * factorial n) whole))
    (λ above.
    let inner : n - k ≡ 0 = omega arith in
    let outer : suc n - suc k ≡ 0 = omega arith in
    let left' = rw inner at left in
    let whole : k + 1 ≡ suc n = omega arith in
    let sum = pascal_end (choose n k) (choose n (suc k)) k (factorial k) (factorial n) left' (choose-past n (suc k) (omega arith)) in
    rw outer (sum ∙ ap (λ x. x * factorial n) whole))
    (cases_lt k n)

same_from_scaled : (a b w : ℕ) → 0 < w → a * w ≡ b * w → a ≡ b
same_from_scaled a b w some e =
    let up : a ≤ b = le_of_mul-le-mul_right (let h : a * w ≤ b * w = omega (arith, e) in h) some in
    let down : b ≤ a = le_of_mul-le-mul_right (let h : b * w ≤ a * w = omega (arith, e) in h) some in
    omega (arith, up, down)

step_scaled : (a b i m F G N : ℕ) → a * (F * (suc m * G)) ≡ N → b * (suc i * F * G) ≡ N → b * suc i * (F * G) ≡ a * suc m * (F * G)
step_scaled a b i m F G N left right = omega (arith, left, right)

-- those of i + 1 things are those of i times n - i by i + 1
choose_step : (n i : ℕ) → i < n → choose n (suc i) * suc i ≡ choose n i * (n - i)
choose_step n i below =
    let inner : n - i ≡ suc (n - suc i) = omega arith in
    let left = rw inner at (choose-factorial n i (omega arith)) in
    let right = choose-factorial n (suc i) (omega arith) in
    let some : 0 < factorial i * factorial (n - suc i) = mul-pos (factorial_pos i) (factorial_pos (n - suc i)) in
    let scaled = step_scaled (choose n i) (choose n (suc i)) i (n - suc i) (factorial i) (factorial (n - suc i)) (factorial n) left right in
    rw inner (same_from_scaled (choose n (suc i) * suc i) (choose n i * suc (n - suc i)) (factorial i * factorial (n - suc i)) some scaled)

pub choose_next : (n i : ℕ) → i < n → choose n i * (n - i) / (i + 1) ≡ choose n (i + 1)
choose_next n i below =
    let e : i + 1 ≡ suc i = omega arith in
    let some : 0 < suc i = omega arith in
    rw (e, ← choose_step n i below) (mul-div_left (choose n (suc i)) some)

rises_once : (n i : ℕ) → suc i + suc i ≤ n → choose n i ≤ choose n (suc i)
rises_once n i half =
    let wide : suc i ≤ n - i = omega arith in
    let more = mul-le-mul_left (choose n i) wide in
    let some : 0 < suc i = omega arith in
    le_of_mul-le-mul_right (let h : choose n i * suc i ≤ choose n (suc i) * suc i = omega (arith, more, choose_step n i (omega arith)) in h) some

pub choose_rises : (n i j : ℕ) → i + j + (i + j) ≤ n → choose n i ≤ choose n (i + j)
choose_rises n i zero half = let e : i + 0 ≡ i = omega arith in rw e (omega arith)
choose_rises n i (suc j) half =
    let e : i + suc j ≡ suc (i + j) = omega arith in
    let half' : suc (i + j) + suc (i + j) ≤ n = omega arith in
    rw e (omega (arith, choose_rises n i j (omega arith), rises_once n (i + j) half'))

pub binomial-choose : (n k : ℕ) → k ≤ n → binomial n k ≡ choose n k
binomial-choose n k order =
    let test : nat_lt n k ≡ false = le-ltb n k order in
    let some : 0 < factorial k * factorial (n - k) = mul-pos (factorial_pos k) (factorial_pos (n - k)) in
    let is : factorial n ≡ factorial k * factorial (n - k) * choose n k = omega (arith, choose-factorial n k order) in
    rw test (ap (λ x. x / (factorial k * factorial (n - k))) is ∙ mul-div_right (choose n k) some)

pub binomial-turned : (n k : ℕ) → k ≤ n → binomial n (n - k) ≡ binomial n k
binomial-turned n k order =
    let rest : n - k ≤ n = omega arith in
    let one : nat_lt n k ≡ false = le-ltb n k order in
    let other : nat_lt n (n - k) ≡ false = le-ltb n (n - k) rest in
    let back : n - (n - k) ≡ k = omega arith in
    let turned : factorial (n - k) * factorial k ≡ factorial k * factorial (n - k) = omega arith in
    rw (one, other, back) (ap (λ w. factorial n / w) turned)

-- ---- what the loops keep to

pub factorial_next : (k : ℕ) → factorial k * (k + 1) ≡ factorial (k + 1)
factorial_next k = let e : k + 1 ≡ suc k = omega arith in rw e (omega arith)

factorial_small : (n : ℕ) → n ≤ 20 → factorial n ≤ 2432902008176640000
factorial_small n small =
    let e : n + (20 - n) ≡ 20 = omega arith in
    let rises = rw e at (factorial_rises n (20 - n)) in
    omega (arith, rises)

pub factorial_within : (n : ℕ) → n ≤ 20 → factorial n < 2 ^ 63
factorial_within n small = omega (arith, factorial_small n small)

pub factorial_beyond : (n : ℕ) → 20 < n → 2 ^ 63 ≤ factorial n
factorial_beyond n large =
    let e : 21 + (n - 21) ≡ n = omega arith in
    let rises = rw e at (factorial_rises 21 (n - 21)) in
    omega (arith, rises)

-- the product fits 128 bits
pub choices_fit : (count n i : ℕ) → count < 2 ^ 63 → n < 2 ^ 63 → count * (n - i) < 2 ^ 128
choices_fit count n i small range =
    let wide : count * (n - i) ≤ 2 ^ 63 * 2 ^ 63 = mul-le-mul (let h : count ≤ 2 ^ 63 = omega arith in h) (let h : n - i ≤ 2 ^ 63 = omega arith in h) in
    omega (arith, wide)

-- once they leave the range they stay outside
pub choices_beyond : (n k i : ℕ) → k + k ≤ n → i < k → 2 ^ 63 ≤ choose n (i + 1) → 2 ^ 63 ≤ binomial n k
choices_beyond n k i half below large =
    let e : i + 1 + (k - (i + 1)) ≡ k = omega arith in
    let half' : i + 1 + (k - (i + 1)) + (i + 1 + (k - (i + 1))) ≤ n = omega arith in
    let rises = rw e at (choose_rises n (i + 1) (k - (i + 1)) half') in
    omega (arith, rises, binomial-choose n k (omega arith))
