-- Numbers of 64 bits reckoned with in 128.
use Rattle.std.proofs.Common.{◌≡◌, ◌^◌, ◌≤◌, ℤ, pos, ◌≤ℤ◌, ◌+ℤ◌, ◌-ℤ◌, ◌*ℤ◌, FitsSigned, to_z, of_z, w64, arith}
use Rattle.std.specs.Prelude.{unsigned_abs}
use Rattle.std.specs.Int.{w128}
use Rattle.std.proofs.lemmas.Int.{ints, to_z-of_z, fits_signed_mul, unsigned_abs-mul}
use Rattle.std.proofs.lemmas.Nat.{mul-le}

pub size_within : (x : ℤ) → FitsSigned w64 x → unsigned_abs x ≤ 2 ^ 63
size_within x fits = omega (arith, ints)

pub within_128 : (x : ℤ) → unsigned_abs x ≤ 2 ^ 63 → FitsSigned w128 x
within_128 x near = search (arith, ints)

-- a divisor, and what is added
pub divisor_128 : (x : ℤ) → pos 0 ≤ℤ x → x ≤ℤ pos (2 ^ 65) → FitsSigned w128 x
divisor_128 x natural most = search (arith, ints)

pub product_within : (x y : ℤ) → unsigned_abs x ≤ 2 ^ 63 → unsigned_abs y ≤ 2 ^ 63 → FitsSigned w128 (x *ℤ y)
product_within x y near nigh = fits_signed_mul w128 x y (2 ^ 63) (2 ^ 63) near nigh (omega arith)

-- a product with a number added or taken away
product_size : (x y : ℤ) → unsigned_abs x ≤ 2 ^ 63 → unsigned_abs y ≤ 2 ^ 63 → unsigned_abs (x *ℤ y) ≤ 2 ^ 126
product_size x y near nigh = rw (unsigned_abs-mul x y) (mul-le (unsigned_abs x) (unsigned_abs y) (2 ^ 63) (2 ^ 63) near nigh)

sum_fits : (p x : ℤ) → unsigned_abs p ≤ 2 ^ 126 → unsigned_abs x ≤ 2 ^ 63 → FitsSigned w128 (p +ℤ x)
sum_fits p x large near = search (arith, ints)

pub sum_within : (x y z : ℤ) → unsigned_abs x ≤ 2 ^ 63 → unsigned_abs y ≤ 2 ^ 63 → unsigned_abs z ≤ 2 ^ 63 → FitsSigned w128 (x *ℤ y +ℤ z)
sum_within x y z near nigh small = sum_fits (x *ℤ y) z (product_size x y near nigh) small

difference_fits : (p x : ℤ) → unsigned_abs p ≤ 2 ^ 126 → unsigned_abs x ≤ 2 ^ 63 → FitsSigned w128 (x -ℤ p)
difference_fits p x large near = search (arith, ints)

pub difference_within : (z x y : ℤ) → unsigned_abs z ≤ 2 ^ 63 → unsigned_abs x ≤ 2 ^ 63 → unsigned_abs y ≤ 2 ^ 63 → FitsSigned w128 (z -ℤ x *ℤ y)
difference_within z x y small near nigh = difference_fits (x *ℤ y) z (product_size x y near nigh) small

pub wide : (x : ℤ) → FitsSigned w64 x → to_z w128 (of_z w128 (to_z w64 (of_z w64 x))) ≡ x
wide x fits = omega (arith, ints)

-- the same of the numbers as they are cast
pub sum_fits_cast : (value radix digit : ℤ) → FitsSigned w64 value → FitsSigned w64 radix → FitsSigned w64 digit
    → FitsSigned w128 (to_z w128 (of_z w128 (to_z w128 (of_z w128 (to_z w64 (of_z w64 value))) *ℤ to_z w128 (of_z w128 (to_z w64 (of_z w64 radix))))) +ℤ to_z w128 (of_z w128 (to_z w64 (of_z w64 digit))))
sum_fits_cast value radix digit fv fr fd =
    let sv = size_within value fv in
    let sr = size_within radix fr in
    let sd = size_within digit fd in
    let fp : FitsSigned w128 (value *ℤ radix) = product_within value radix sv sr in
    rw (wide value fv, wide radix fr, wide digit fd, to_z-of_z w128 (value *ℤ radix) fp) (sum_within value radix digit sv sr sd)

-- a value with a digit more
pub longer_value : (value radix digit : ℤ) → FitsSigned w64 value → FitsSigned w64 radix → FitsSigned w64 digit
    → to_z w128 (of_z w128 (to_z w128 (of_z w128 (to_z w128 (of_z w128 (to_z w64 (of_z w64 value))) *ℤ to_z w128 (of_z w128 (to_z w64 (of_z w64 radix))))) +ℤ to_z w128 (of_z w128 (to_z w64 (of_z w64 digit)))))
    ≡ value *ℤ radix +ℤ digit
longer_value value radix digit fv fr fd =
    let sv = size_within value fv in
    let sr = size_within radix fr in
    let sd = size_within digit fd in
    let gv : FitsSigned w128 value = within_128 value sv in
    let gr : FitsSigned w128 radix = within_128 radix sr in
    let gd : FitsSigned w128 digit = within_128 digit sd in
    let fp : FitsSigned w128 (value *ℤ radix) = product_within value radix sv sr in
    let fs : FitsSigned w128 (value *ℤ radix +ℤ digit) = sum_within value radix digit sv sr sd in
    simp to_z-of_z
