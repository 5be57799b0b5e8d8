-- The arithmetic of whole numbers that the scalar functions use. It is exact.
use Rattle.std.specs.Prelude.{ℕ, zero, suc, ℤ, pos, negsuc, neg_ℤ, ◌-◌, ◌*◌, ◌/◌, ◌-ℤ◌, ◌*ℤ◌, nat_lt, if◌then◌else◌}
use Rattle.std.specs.Int.{div_ceil}
use Rattle.std.specs.Ordering.{int_eq}

-- 1 times 2 and so on up to n
abbrev pub factorial : ℕ → ℕ
factorial zero = 1
factorial (suc n) = suc n * factorial n

-- n! by (k! times (n - k)!), and 0 if k exceeds n
abbrev pub binomial : ℕ → ℕ → ℕ
binomial n k = if nat_lt n k then 0 else factorial n / (factorial k * factorial (n - k))

-- the quotient of b by a, which is not 0, rounded down
abbrev pub floor_quotient : ℤ → ℤ → ℤ
floor_quotient (pos b) (pos a) = pos (b / a)
floor_quotient (pos b) (negsuc a) = neg_ℤ (pos (div_ceil b (suc a)))
floor_quotient (negsuc b) (pos a) = negsuc (b / a)
floor_quotient (negsuc b) (negsuc a) = pos (suc b / suc a)

-- b if a is 0, else b minus a times the quotient of b by a, rounded down
abbrev pub residue : ℤ → ℤ → ℤ
residue a b = if int_eq a (pos 0) then b else b -ℤ a *ℤ floor_quotient b a
