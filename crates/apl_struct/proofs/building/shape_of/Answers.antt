use Rattle.std.proofs.Common.{◌≡◌, pos, [], ◌∷◌, length, slice_index, sym, ap, ◌∙◌, rules}
use Rattle.std.specs.Prelude.{Ok}
use Rattle.apl_array.specs.declared.array.Elem.TheVariants.{Int}
use Rattle.apl_struct.proofs.Elements.{vector_index}
use Rattle.apl_struct.proofs.building.shape_of.Goals as goal

pub returns : goal.returns
returns g c =
    let b = c.args.b.now in
    let shapes : c.in_ok-shape.shape ≡ length b.shape ∷ [] = search rules in
    rw shapes at
    (c.fill_array.ensures (λ index. Ok (Int (pos (slice_index b.shape (slice_index index 0)))))
    (λ place inside.
    ap (λ s. Ok (Int (pos (slice_index s place)))) c.shape-2.ensures.shape
    ∙ ap (λ p. Ok (Int (pos (slice_index b.shape p)))) (sym (vector_index c.in_ok-shape.shape (length b.shape) place shapes inside).1)))
