-- Magnitudes of numbers, and how far their sums and products can be from 0.
use Rattle.std.proofs.Common.{◌≡◌, ℕ, zero, suc, ℤ, pos, ◌+◌, ◌*◌, ◌^◌, ◌<◌, ◌≤◌, ◌+ℤ◌, ◌*ℤ◌, FitsSigned, w64, List, [], ◌∷◌, get_or, to_z, of_z, refl, arith}
use Rattle.std.specs.Prelude.{unsigned_abs}
use Rattle.std.proofs.Math.Nat.{mul-le-mul, mul-le-mul_right}
use Rattle.std.proofs.lemmas.Int.{ints, to_z-of_z, unsigned_abs-mul, fits_signed_from_abs}
use Rattle.apl_reduce.specs.Magnitudes.{magnitude, sum_of}

pub near_of : (numbers : List ℤ) (k : ℕ) → unsigned_abs (get_or numbers k (pos 0)) ≤ magnitude numbers
near_of [] k = omega arith
near_of (z ∷ rest) zero = omega arith
near_of (z ∷ rest) (suc k) = omega (arith, near_of rest k)

pub product_near : (left right : List ℤ) (i j : ℕ) → unsigned_abs (get_or left i (pos 0) *ℤ get_or right j (pos 0)) ≤ magnitude left * magnitude right
product_near left right i j = rw unsigned_abs-mul (mul-le-mul (near_of left i) (near_of right j))

pub sum_near : (x y : ℤ) → unsigned_abs (x +ℤ y) ≤ unsigned_abs x + unsigned_abs y
sum_near x y = omega (arith, ints)

pub fits_near : (z : ℤ) (n most count : ℕ) → unsigned_abs z ≤ n * most → n ≤ count → most * count < 2 ^ 63 → FitsSigned w64 z
fits_near z n most count near few small =
    let less = mul-le-mul_right most few in
    fits_signed_from_abs w64 z (omega (arith, less))

module _ (number : ℕ → ℤ) (most : ℕ) (near : (k : ℕ) → unsigned_abs (number k) ≤ most) where
  pub sum_of_near : (n : ℕ) → unsigned_abs (sum_of number n) ≤ n * most
  sum_of_near zero = omega arith
  sum_of_near (suc n) = omega (arith, sum_near (sum_of number n) (number n), near n, sum_of_near n)

-- ---- the walk over the products of two lists

module _ (left right : List ℤ) (count : ℕ) (small : magnitude left * magnitude right * count < 2 ^ 63) where
  pub product_fits : (i j : ℕ) → 0 < count → FitsSigned w64 (get_or left i (pos 0) *ℤ get_or right j (pos 0))
  product_fits i j some =
      fits_near (get_or left i (pos 0) *ℤ get_or right j (pos 0)) 1 (magnitude left * magnitude right) count (omega (arith, product_near left right i j)) some small

  pub sum_fits : (i j : ℕ → ℕ) (k : ℕ) → k ≤ count → FitsSigned w64 (sum_of (λ m. get_or left (i m) (pos 0) *ℤ get_or right (j m) (pos 0)) k)
  sum_fits i j k inside =
      let number = λ (m : ℕ). get_or left (i m) (pos 0) *ℤ get_or right (j m) (pos 0) in
      fits_near (sum_of number k) k (magnitude left * magnitude right) count (sum_of_near number (magnitude left * magnitude right) (λ m. product_near left right (i m) (j m)) k) inside small

-- one product more, as 64 bits hold it
pub one_more : (number : ℕ → ℤ) (k : ℕ) (total x y a b : ℤ) → total ≡ sum_of number k → a ≡ x → b ≡ y → x *ℤ y ≡ number k → FitsSigned w64 (x *ℤ y)
    → total +ℤ to_z w64 (of_z w64 (a *ℤ b)) ≡ sum_of number (suc k)
one_more number k total x y a b so_far left right here fits =
    let read : to_z w64 (of_z w64 (x *ℤ y)) ≡ x *ℤ y = to_z-of_z w64 (x *ℤ y) fits in
    rw (left, right, read, here, so_far) refl

-- numbers of 32 bits
module _ (numbers : List ℤ) (k : ℕ) (narrow : magnitude numbers < 2 ^ 31) where
  pub narrow_read : to_z w64 (of_z w64 (get_or numbers k (pos 0))) ≡ get_or numbers k (pos 0)
  narrow_read = to_z-of_z w64 (get_or numbers k (pos 0)) (fits_signed_from_abs w64 (get_or numbers k (pos 0)) (omega (arith, near_of numbers k, narrow)))

  pub read_narrow : unsigned_abs (to_z w64 (of_z w64 (get_or numbers k (pos 0)))) < 2147483648
  read_narrow = rw narrow_read (omega (arith, near_of numbers k, narrow))

-- the same of a product that is at hand
pub one_sum_more : (number : ℕ → ℤ) (k : ℕ) (total product x y a b : ℤ) → total ≡ sum_of number k → product ≡ a *ℤ b → a ≡ x → b ≡ y → x *ℤ y ≡ number k → FitsSigned w64 (x *ℤ y)
    → total +ℤ to_z w64 (of_z w64 product) ≡ sum_of number (suc k)
one_sum_more number k total product x y a b so_far is left right here fits =
    let read : to_z w64 (of_z w64 (x *ℤ y)) ≡ x *ℤ y = to_z-of_z w64 (x *ℤ y) fits in
    rw (is, left, right, read, here, so_far) refl
