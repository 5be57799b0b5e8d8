-- What a function of arrays gives.
use Rattle.std.specs.Prelude.{◌≡◌, ℕ, Ok, [], ◌∷◌}
use Rattle.apl_array.specs.Array.{ArrayValue, IsArray}
use Rattle.apl_answer.specs.Rows.{Row, result_of}

-- none of the row's checks fails, and its value is this array
abbrev pub Gives : Row → ArrayValue → Type 0
Gives row a = result_of row ≡ Ok a

-- an array that is a vector of n items
pub record IsVector (n : ℕ) (v : ArrayValue) : Type 0 where
  pub array : IsArray v
  pub shape : v.shape ≡ n ∷ []
