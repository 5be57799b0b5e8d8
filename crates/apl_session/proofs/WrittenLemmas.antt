-- What a sink took, one text after the other.
use Rattle.std.proofs.Common.{ℕ, List, ◌++◌, Option, sym, ap, ◌∙◌, append_assoc}
use Rattle.std.specs.Io.KnownBytes.{Appends}
use Rattle.std.proofs.KnownBytes.{Appends-trans}
use Rattle.apl_print.specs.Put.{AppendsFront}

-- a whole text, and then a beginning of the next
pub AppendsFront-after : (a b c : Option (List ℕ)) (whole text more : List ℕ) → Appends a b whole → AppendsFront b c text → AppendsFront a c (whole ++ (text ++ more))
AppendsFront-after a b c whole text more first second = (
  whole ++ second.0,
  second.1 ++ more,
  ap (λ text. whole ++ (text ++ more)) second.2 ∙ ap (λ rest. whole ++ rest) (append_assoc second.0 second.1 more) ∙ sym (append_assoc whole second.0 (second.1 ++ more)),
  Appends-trans a b c whole second.0 first second.3,
)
