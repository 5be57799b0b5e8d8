-- Truth values joined by ≠: whether an odd number of them are true. No contract of a public function cites this file.
use Rattle.std.specs.Prelude.{ℕ, ◌+◌, ◌*◌, Bool, not, List, [], ◌∷◌, if◌then◌else◌}

-- whether one of two is true and the other is not
abbrev pub unequal : Bool → Bool → Bool
unequal a b = if a then not b else b

-- the truth value before them and all of them, joined
abbrev pub parity : (before : Bool) → List Bool → Bool
parity before [] = before
parity before (t ∷ ts) = parity (unequal before t) ts

-- joined up to each of them
abbrev pub parities : (before : Bool) → List Bool → List Bool
parities before [] = []
parities before (t ∷ ts) = unequal before t ∷ parities (unequal before t) ts

-- 1 for true, 0 for false
abbrev pub digit : Bool → ℕ
digit t = if t then 1 else 0

-- the word whose bytes are truth values, the first of them the lowest
abbrev pub word_of : List Bool → ℕ
word_of [] = 0
word_of (t ∷ ts) = digit t + 256 * word_of ts

-- the word whose 64 bits all are a truth value
abbrev pub spread : Bool → ℕ
spread t = if t then 18446744073709551615 else 0
