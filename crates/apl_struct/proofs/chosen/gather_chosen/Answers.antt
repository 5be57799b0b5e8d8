use Rattle.std.proofs.Common.{ℕ, ℤ, ◌-ℤ◌, pos, map, slice_index_or, to_z, of_z, w64, sym, ap, ◌∙◌}
use Rattle.std.specs.Prelude.{unsigned_abs}
use Rattle.apl_struct.specs.Chosen.{chosen_value}
use Rattle.apl_struct.proofs.OneSlot.{chosen_element}
use Rattle.apl_struct.proofs.Elements.{origin_cast}
use Rattle.apl_struct.proofs.chosen.gather_chosen.Goals as goal

pub returns : goal.returns
returns g c = λ outcome same.
    let elements = c.args.elements.now in
    let number : ℕ → ℤ = λ place. slice_index_or (map g.N.Numeric.number_in c.args.numbers.now) place (pos 0) in
    let first = unsigned_abs (to_z w64 (of_z w64 c.number-first.result)) in
    rw c.requires.kind
    (c.fill_array.ensures outcome
    (λ place inside.
    chosen_element g.T.ElementType.elem_of elements (number place -ℤ pos first) ∙ ap (λ values. chosen_value values (number place -ℤ pos first)) (sym c.requires.ravel)
    ∙ ap (λ n. chosen_value c.args.a.now.ravel (number place -ℤ pos n)) (origin_cast c.args.origin c.number-first.result c.number-first.ensures.value)
    ∙ same place inside))
