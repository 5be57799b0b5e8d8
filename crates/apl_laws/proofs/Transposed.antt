-- Transposition, and the same with the axes named in reverse order.
use Rattle.std.proofs.Common.{ℕ, List, [], reverse, refl, sym, ap, subst, ◌∙◌}
use Rattle.std.proofs.lemmas.List.{reverse-reverse}
use Rattle.apl_array.specs.declared.array.Elem.{Elem}
use Rattle.apl_array.specs.Shape.{IsIndexOf}
use Rattle.apl_array.specs.Array.{ArrayValue, IsArray, element_at}
use Rattle.apl_struct.specs.Rearranging.{transpose_row}
use Rattle.apl_laws.specs.Giving.{Gives}
use Rattle.apl_laws.proofs.Given.{Places, array_by, given, element_by, gives_array}

-- an index list in reverse order is one of the axes in reverse order
abbrev pub ReversedLaw : Type 0
ReversedLaw = (shape index : List ℕ) → IsIndexOf (reverse shape) index → IsIndexOf shape (reverse index)

pub transpose_back : Places → ReversedLaw → (b c : ArrayValue) → IsArray b → Gives (transpose_row b) c → Gives (transpose_row c) b
transpose_back places reversed b c array is =
    let element : List ℕ → Elem = λ index. element_at b (reverse index) in
    let parts = given [] (reverse b.shape) b.kind element c is in
    let turned = array_by (reverse b.shape) b.kind element in
    let P : ArrayValue → Type 0 = λ z. Gives (transpose_row z) b in
    subst P (sym parts.1)
    (gives_array places [] (reverse (reverse b.shape)) b.kind (λ index. element_at turned (reverse index)) b array tt (reverse-reverse b.shape) refl
    (λ index inside.
    let Q : List ℕ → Type 0 = λ z. IsIndexOf z index in
    let lawful : IsIndexOf (reverse b.shape) (reverse index) = reversed (reverse b.shape) index (subst Q (sym (reverse-reverse b.shape)) inside) in
    element_by places (reverse b.shape) b.kind element (reverse index) lawful ∙ ap (element_at b) (reverse-reverse index)))
