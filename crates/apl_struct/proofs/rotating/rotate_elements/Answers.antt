use Rattle.std.proofs.Common.{◌≡◌, ℕ, ◌+◌, ◌*◌, ◌/◌, ◌%◌, Ok, Some, slice_index_or, sym, ap, ◌∙◌}
use Rattle.apl_answer.specs.Arguments.{fill_of}
use Rattle.apl_walk.specs.Gathered.{filled_at}
use Rattle.apl_walk.specs.Steps.{rotated_place}
use Rattle.apl_struct.proofs.Elements.{filled_value}
use Rattle.apl_struct.proofs.Rotations.{turned_row, turned_column}
use Rattle.apl_struct.proofs.rotating.rotate_elements.Given.{Over}
use Rattle.apl_struct.proofs.rotating.rotate_elements.Goals as goal
use Rattle.apl_struct.proofs.rotating.rotate_elements.Goals.{After-fill-past}

value : (g : Over) (c : After-fill-past g) (place : ℕ) → let f = g.T.ElementType.elem_of in f (slice_index_or c.args.elements.now place c.fill-past.result) ≡ filled_at c.args.b.now (Some place)
value g c place =
    filled_value g.T.ElementType.elem_of c.args.b.now c.args.elements.now c.fill-past.result place c.requires.ravel (c.fill-past.ensures ∙ ap fill_of (sym c.requires.kind))

pub returns-then-inner-eq1 : goal.returns-then-inner-eq1
returns-then-inner-eq1 g c = λ element same.
    let n = c.args.rotations.length in
    let by = c.args.rotations.by.now in
    rw c.requires.kind
    (c.fill_array.ensures (λ index. Ok (element index))
    (λ place inside.
    rw c.new-rows.ensures
    (ap Ok (value g (goal.at.returns-then-inner-eq1 g c).After-fill-past (rotated_place n by (place / n) (place / n) (place % n))
    ∙ ap (λ p. filled_at c.args.b.now (Some p)) (turned_row n c.args.inner by place c.if-inner-eq1.true) ∙ same place inside))))

pub returns : goal.returns
returns g c = λ element same.
    let n = c.args.rotations.length in
    let by = c.args.rotations.by.now in
    let m = c.args.inner in
    rw c.requires.kind
    (c.fill_array-2.ensures (λ index. Ok (element index))
    (λ place inside.
    rw c.new-columns.ensures
    (ap Ok (value g (goal.at.returns g c).After-fill-past (rotated_place n by (place / m / n) (place / m / n * m + place % m) (place / m % n) * m + place % m)
    ∙ ap (λ p. filled_at c.args.b.now (Some p)) (turned_column n m by place) ∙ same place inside))))
