-- A quotient by the reciprocal of the divisor.
use Rattle.std.proofs.Common.{◌≡◌, ℕ, ◌+◌, ◌*◌, ◌/◌, ◌%◌, ◌<◌, ◌≤◌, mul-le-mul_left, mul-le-mul_right, arith}
use Rattle.std.proofs.Math.Nat.{div-add-mod, mod-lt, div-eq_of_lt-le, lt_of_mul-lt-mul_right}

-- the reciprocal is that of a scale which no product of a number and the divisor reaches
pub quotient_by_reciprocal : (scale n d : ℕ) → 0 < d → n * d < scale → n * (scale / d + 1) / scale ≡ n / d
quotient_by_reciprocal scale n d some few =
    let q = n / d in
    let reciprocal = scale / d + 1 in
    let whole : d * (scale / d) + scale % d ≡ scale = div-add-mod scale d in
    let rest : scale % d < d = mod-lt scale some in
    let least : scale ≤ d * reciprocal = omega (arith, whole, rest) in
    let most : d * reciprocal ≤ scale + d = omega (arith, whole) in
    let parts : d * q + n % d ≡ n = div-add-mod n d in
    let next : n + 1 ≤ (q + 1) * d = omega (arith, parts, mod-lt n some) in
    let before : d * q ≤ n = omega (arith, parts) in
    let low : q * scale ≤ n * reciprocal = omega (arith, mul-le-mul_left q least, mul-le-mul_right reciprocal before) in
    let high : n * reciprocal * d < (q + 1) * scale * d = omega (arith, mul-le-mul_left n most, few, mul-le-mul_right scale next) in
    div-eq_of_lt-le scale low (lt_of_mul-lt-mul_right d high)
