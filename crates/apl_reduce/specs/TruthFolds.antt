-- Functions that, of truth values, ask for all or for one, or for how many there are. No contract of a public function cites this file.
use Rattle.std.specs.Prelude.{◌≡◌, ℕ, ◌-◌, ◌&&◌, ◌||◌, Bool, true, false, not, List, Ok}
use Rattle.apl_array.specs.declared.function.ScalarFunction.{ScalarFunction}
use Rattle.apl_array.specs.Array.{bit, truth_element}
use Rattle.apl_scalar.specs.Scalar.{dyadic_of}
use Rattle.apl_reduce.specs.Ones.{ones}

-- of two truth values it gives 1 if both are 1, and else 0
abbrev pub IsConjunction : ScalarFunction → Type 0
IsConjunction f = (a b : Bool) → dyadic_of f (truth_element a) (truth_element b) ≡ Ok (bit (a && b))

-- of two truth values it gives 0 if both are 0, and else 1
abbrev pub IsDisjunction : ScalarFunction → Type 0
IsDisjunction f = (a b : Bool) → dyadic_of f (truth_element a) (truth_element b) ≡ Ok (bit (a || b))

-- a truth value, which another one turns over if that is `turn`
abbrev pub turned : (turn a b : Bool) → Bool
turned true true b = not b
turned true false b = b
turned false true b = b
turned false false b = not b

-- of two truth values it gives the right one, turned over if the left one is `turn`
abbrev pub TurnsAt : Bool → ScalarFunction → Type 0
TurnsAt turn f = (a b : Bool) → dyadic_of f (truth_element a) (truth_element b) ≡ Ok (bit (turned turn a b))

-- how many of neighbours from place `first` on are `turn`
abbrev pub turns_among : List Bool → (first : ℕ) → (turn : Bool) → (count : ℕ) → ℕ
turns_among truths first true count = ones truths first count
turns_among truths first false count = count - ones truths first count
