use Rattle.std.proofs.Common.{◌≡◌, ◌%◌, [], ◌∷◌, slice_index, sym, ap, ◌∙◌, arith, rules}
use Rattle.std.proofs.Math.Nat.{mod-eq_of_lt, mod-lt}
use Rattle.apl_array.specs.Array.{element_in}
use Rattle.apl_answer.specs.Arguments.{size_of}
use Rattle.apl_struct.proofs.Elements.{filled_in, vector_index}
use Rattle.apl_struct.proofs.building.ravel.Goals as goal

pub returns : goal.returns
returns g c =
    let b = c.args.b.now in
    let shapes : c.in_ok-shape.shape ≡ size_of b ∷ [] = search rules in
    rw shapes at
    (c.repeat.ensures (λ index. element_in b (slice_index index 0))
    (λ place inside.
    let known = vector_index c.in_ok-shape.shape (size_of b) place shapes inside in
    filled_in b (place % size_of b) c.shape.ensures.lawful (mod-lt place (omega (arith, known.0))) ∙ ap (element_in b) (mod-eq_of_lt known.0 ∙ sym known.1)))
