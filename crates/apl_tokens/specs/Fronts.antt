-- The front of a line.
use Rattle.std.specs.Prelude.{◌≡◌, ℕ, Bool, IsTrue, List, [], ◌∷◌, ◌++◌, encode_utf8, encode_utf8_all}
use Rattle.apl_tokens.specs.Symbols.{is_listed}

-- each character passes the test
abbrev pub AllPass : (ℕ → Bool) → List ℕ → Type 0
AllPass p [] = Unit {0}
AllPass p (c ∷ cs) = IsTrue (p c) × AllPass p cs

-- The front of a line is its longest beginning made of listed symbols. These are its characters, and the
-- rest of the bytes begins with none.
pub record IsFront (bytes characters rest : List ℕ) : Type 0 where
  pub listed : AllPass is_listed characters
  pub split : bytes ≡ encode_utf8_all characters ++ rest
  pub longest : (c : ℕ) (after : List ℕ) → IsTrue (is_listed c) → rest ≡ encode_utf8 c ++ after → ⊥
