-- Products of three whole numbers.
use Rattle.std.proofs.Common.{◌≡◌, ℕ, ◌+◌, ◌*◌, ℤ, ◌*ℤ◌, ap, ◌∙◌, arith}
use Rattle.std.proofs.lemmas.Int.{ints}
use borrow.Author.Differences.{up, down, product_is}

up_down : (x t r : ℤ) → (up ((x *ℤ t) *ℤ r) ≡ (up x * up t + down x * down t) * up r + (up x * down t + down x * up t) * down r) × (down ((x *ℤ t) *ℤ r) ≡ (up x * up t + down x * down t) * down r + (up x * down t + down x * up t) * up r)
up_down x t r = let p = product_is x t in let q = product_is (x *ℤ t) r in (
  q.0 ∙ ap (λ (k : ℕ). k * up r + down (x *ℤ t) * down r) p.0 ∙ ap (λ (k : ℕ). (up x * up t + down x * down t) * up r + k * down r) p.1,
  q.1 ∙ ap (λ (k : ℕ). k * down r + down (x *ℤ t) * up r) p.0 ∙ ap (λ (k : ℕ). (up x * up t + down x * down t) * down r + k * up r) p.1,
)

down_up : (x t r : ℤ) → (up (x *ℤ (t *ℤ r)) ≡ up x * (up t * up r + down t * down r) + down x * (up t * down r + down t * up r)) × (down (x *ℤ (t *ℤ r)) ≡ up x * (up t * down r + down t * up r) + down x * (up t * up r + down t * down r))
down_up x t r = let p = product_is t r in let q = product_is x (t *ℤ r) in (
  q.0 ∙ ap (λ (k : ℕ). up x * k + down x * down (t *ℤ r)) p.0 ∙ ap (λ (k : ℕ). up x * (up t * up r + down t * down r) + down x * k) p.1,
  q.1 ∙ ap (λ (k : ℕ). up x * k + down x * up (t *ℤ r)) p.1 ∙ ap (λ (k : ℕ). up x * (up t * down r + down t * up r) + down x * k) p.0,
)

pub mul_assoc_ℤ : (x t r : ℤ) → (x *ℤ t) *ℤ r ≡ x *ℤ (t *ℤ r)
mul_assoc_ℤ x t r = let a = up_down x t r in let b = down_up x t r in omega (arith, ints, a.0, a.1, b.0, b.1)
