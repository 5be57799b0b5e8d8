-- Texts that are put piece by piece.
use Rattle.std.proofs.Common.{ℕ, List, [], ◌++◌, Option, Result, Ok, Err, ap, ◌∙◌, sym, subst, append_assoc, append-nil}
use Rattle.std.specs.Io.KnownBytes.{Appends}
use Rattle.std.proofs.KnownBytes.{Appends-trans}
use Rattle.apl_print.specs.Put.{AppendsFront, Writes}

-- a whole text, and then a beginning of the next
pub AppendsFront-after : (a b c : Option (List ℕ)) (whole text more : List ℕ) → Appends a b whole → AppendsFront b c text → AppendsFront a c (whole ++ (text ++ more))
AppendsFront-after a b c whole text more first second = (
  whole ++ second.0,
  second.1 ++ more,
  ap (λ text. whole ++ (text ++ more)) second.2 ∙ ap (λ rest. whole ++ rest) (append_assoc second.0 second.1 more) ∙ sym (append_assoc whole second.0 (second.1 ++ more)),
  Appends-trans a b c whole second.0 first second.3,
)

-- a beginning of the first piece is a beginning of the whole
pub AppendsFront-first : (a b : Option (List ℕ)) (text more : List ℕ) → AppendsFront a b text → AppendsFront a b (text ++ more)
AppendsFront-first a b text more front =
    (front.0, front.1 ++ more, ap (λ text. text ++ more) front.2 ∙ append_assoc front.0 front.1 more, front.3)

-- a whole text, and then what the last call writes
pub Writes-after : {T E : Type 0} (a b c : Option (List ℕ)) (whole text : List ℕ) (result : Result T E) → Appends a b whole → Writes b c text result → Writes a c (whole ++ text) result
Writes-after a b c whole text (Ok value) first last = Appends-trans a b c whole text first last
Writes-after a b c whole text (Err error) first last =
    subst (λ t. AppendsFront a c (whole ++ t)) (append-nil text) (AppendsFront-after a b c whole text [] first last)
