use Rattle.std.proofs.Common.{◌≡◌, length, reverse, ap, ◌∙◌, rules}
use Rattle.std.specs.List.{range_with_len}
use Rattle.std.proofs.lemmas.List.{length-reverse}
use Rattle.apl_array.specs.Array.{element_at}
use Rattle.apl_struct.proofs.Limits.{lawful_reverse}
use Rattle.apl_struct.proofs.Permuted.{reversed_axes, AreAxesInto-reverse}
use Rattle.apl_struct.proofs.permuting.transpose.Given.{Over}
use Rattle.apl_struct.proofs.permuting.transpose.Goals as goal
use Rattle.apl_struct.proofs.permuting.transpose.Goals.{After-as_slice, After-as_slice-2}

lengths : (g : Over) (c : After-as_slice g) → c.as_slice.result.now ≡ reverse c.args.b.now.shape
lengths g c =
    let turned : c.in_ok-lengths.lengths.items ≡ reverse c.lengths.result.now = search rules in
    c.as_slice.ensures.value ∙ turned ∙ ap reverse (c.lengths.ensures.lengths ∙ c.shape-argument.ensures.shape)

axes : (g : Over) (c : After-as_slice-2 g) → c.as_slice-2.result.now ≡ reverse (range_with_len 0 (length c.args.b.now.shape))
axes g c =
    c.as_slice-2.ensures.value ∙ c.in_ok-axes.ensures ∙ reversed_axes c.rank.result ∙ ap (λ n. reverse (range_with_len 0 n)) (c.rank.ensures.rank ∙ ap length c.shape-argument.ensures.shape)

pub lawful_shape-requires : goal.lawful_shape-requires
lawful_shape-requires g c =
    let shape = c.args.b.now.shape in
    rw (lengths g (goal.at.lawful_shape-requires g c).After-as_slice) (lawful_reverse shape (c.reversed_index_is_lawful.ensures.count shape) c.shape-argument.ensures.lawful.shape)

pub transposed-requires-clause-into : goal.transposed-requires-clause-into
transposed-requires-clause-into g c κs within =
    let known = goal.at.transposed-requires-clause-into g c in
    rw (axes g known.After-as_slice-2, c.in_ok-shape.ensures.shape, lengths g known.After-as_slice) (AreAxesInto-reverse c.args.b.now.shape)

pub returns : goal.returns
returns g c =
    let b = c.args.b.now in
    let known = goal.at.returns g c in
    let shape : c.in_ok-shape.shape ≡ reverse b.shape = c.in_ok-shape.ensures.shape ∙ lengths g known.After-as_slice in
    rw (← shape) (c.transposed.ensures (λ index. element_at b (reverse index)) (λ index lawful.
    let long : length index ≡ length b.shape = lawful.len ∙ ap length shape ∙ length-reverse b.shape in
    rw (axes g known.After-as_slice-2, ← long) (ap (element_at b) (c.transposed_index_has_place.ensures.reversed index))))
