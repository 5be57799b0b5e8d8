use Rattle.std.proofs.Common.{◌≡◌, length, refl, sym, ap, ◌∙◌}
use Rattle.apl_array.specs.Array.{element_at}
use Rattle.apl_answer.specs.Arguments.{size_of, numbers_of}
use Rattle.apl_struct.specs.Shaped.{with_shape, left_numbers}
use Rattle.apl_struct.specs.Taking.{with_axes, drop_source, dropped_shape}
use Rattle.apl_struct.proofs.Taken.{left_shape, left_length, left_source}
use Rattle.apl_struct.proofs.taking.drop.Goals as goal

pub taken-requires-clause-len : goal.taken-requires-clause-len
taken-requires-clause-len g c κs within =
    let numbers = c.as_slice-numbers.result.now in
    let argument = c.in_ok-argument.argument in
    let shape : argument ≡ (with_axes (size_of c.args.a.now) c.args.b.now).shape =
    c.in_ok-argument.ensures.shape ∙ ap (λ n. (with_axes n c.args.b.now).shape) (ap length c.as_slice-numbers.ensures ∙ c.in_ok-numbers.ensures.len) in
    rw (c.as_slice.ensures.value, c.in_ok-push_left.ensures, c.in_ok-left.ensures.items, c.lengths.ensures.lengths)
    (left_length numbers argument (ap length c.as_slice-numbers.ensures ∙ c.in_ok-numbers.ensures.axes ∙ sym (ap length shape)))

pub returns : goal.returns
returns g c =
    let b = c.args.b.now in
    let kept = numbers_of c.args.a.now in
    let numbers : c.as_slice-numbers.result.now ≡ kept = c.as_slice-numbers.ensures ∙ sym c.in_ok-numbers.ensures.numbers in
    let lengths = (with_axes (size_of c.args.a.now) b).shape in
    let shape : c.in_ok-argument.argument ≡ lengths = c.in_ok-argument.ensures.shape ∙ ap (λ n. (with_axes n b).shape) (ap length c.as_slice-numbers.ensures ∙ c.in_ok-numbers.ensures.len) in
    let left : c.as_slice.result.now ≡ left_numbers kept lengths =
    c.as_slice.ensures.value ∙ c.in_ok-push_left.ensures ∙ rw (c.in_ok-left.ensures.items, c.lengths.ensures.lengths, shape, numbers) refl in
    let agree : length kept ≡ length lengths = ap length c.in_ok-numbers.ensures.numbers ∙ c.in_ok-numbers.ensures.axes in
    rw (c.in_ok-numbers.ensures.judged (dropped_shape kept lengths), ← (left_shape kept lengths), ← left)
    (c.taken.ensures (λ index. element_at (with_shape lengths b) (drop_source kept index)) (λ index lawful.
    let inside = rw (left, left_shape kept lengths) at lawful in
    rw (shape, left, left_source kept lengths index agree inside) refl))
