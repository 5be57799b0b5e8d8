-- Folds of neighbours that are 1 or ¯1 by `×`. No contract of a public function cites this file.
use Rattle.std.specs.Prelude.{◌≡◌, ◌⊎◌, ℕ, zero, suc, ◌^◌, ◌<◌, ℤ, pos, negsuc, ◌*ℤ◌, List, map, Ok, unsigned_abs}
use Rattle.std.specs.Int.{bit_at}
use Rattle.apl_array.specs.declared.array.Elem.TheVariants.{Int}
use Rattle.apl_array.specs.declared.function.ScalarFunction.TheVariants.{Times}
use Rattle.apl_reduce.specs.Folded.{folded_onto}
use Rattle.apl_reduce.specs.Items.{item_in}

-- 1 for 0, and ¯1 for 1
abbrev pub sign_by : ℕ → ℤ
sign_by zero = pos 1
sign_by (suc n) = negsuc 0

-- the sign that 64 bits have, by the highest of them
abbrev pub sign_of : ℕ → ℤ
sign_of bits = sign_by (bit_at bits 63)

-- no number among them is other than 1 and ¯1, if these are the bits of all, each with 1 added
abbrev pub AreUnits : ℕ → Type 0
AreUnits sums = (sums ≡ 0) ⊎ (sums ≡ 2)

-- such neighbours fold onto a number as their sign does
abbrev pub AreRunSigns : List ℤ → (first count signs sums : ℕ) → Type 0
AreRunSigns numbers first count signs sums = AreUnits sums → (t : ℤ) → unsigned_abs t < 2 ^ 63
    → folded_onto Times (item_in (map Int numbers)) first count (Ok t) ≡ Ok (sign_of signs *ℤ t)
