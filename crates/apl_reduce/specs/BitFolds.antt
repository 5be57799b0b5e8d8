-- Folds of truth values by what their bits have in common. No contract of a public function cites this file.
use Rattle.std.specs.Prelude.{◌≡◌, ℕ, ◌<◌, ◌&&◌, ◌||◌, ℤ, Bool, List, map, Ok, nat_eq}
use Rattle.apl_array.specs.declared.array.Elem.TheVariants.{Int}
use Rattle.apl_array.specs.declared.function.ScalarFunction.TheVariants.{And, Or}
use Rattle.apl_scalar.specs.Scalar.{bit}
use Rattle.apl_reduce.specs.Folded.{folded_onto}
use Rattle.apl_reduce.specs.Items.{item_in}

-- whether all of these neighbours are 1, and whether one is, if none has a bit above the lowest: so they fold onto a bit
pub record AreRunBits (numbers : List ℤ) (first count all any : ℕ) : Type 0 where
  pub low : all < 2
  pub ands : any < 2 → (b : Bool) → folded_onto And (item_in (map Int numbers)) first count (Ok (bit b)) ≡ Ok (bit (nat_eq all 1 && b))
  pub ors : any < 2 → (b : Bool) → folded_onto Or (item_in (map Int numbers)) first count (Ok (bit b)) ≡ Ok (bit (nat_eq any 1 || b))
