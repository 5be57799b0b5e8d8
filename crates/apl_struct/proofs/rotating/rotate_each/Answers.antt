use Rattle.std.proofs.Common.{◌≡◌, Some, ◌<◌, ◌≤◌, ◌+◌, ◌*◌, drop, take, slice_index, slice_index_or, slice_set, length, map, pos, ap, sym, ◌∙◌, arith, rules}
use Rattle.std.specs.Prelude.{remove}
use Rattle.apl_array.specs.Array.{element_at}
use Rattle.apl_array.specs.Shape.{IsIndexOf, count_of, place_of, index_at}
use Rattle.apl_struct.specs.Along.{line_index, line_number, line_place}
use Rattle.apl_struct.specs.Rearranging.{rotated_index}
use Rattle.apl_struct.specs.Rotation.{rotation_of}
use Rattle.apl_walk.specs.Gathered.{filled_at}
use Rattle.apl_walk.specs.Steps.{wrapped}
use Rattle.apl_struct.proofs.Elements.{AxisFacts, axis_facts, filled_within}
use Rattle.apl_struct.proofs.Rotations.{line_is, rotated_by, rotation_at_line, rotation_at_line_most, wrapped_below}
use Rattle.apl_struct.proofs.rotating.rotate_each.Given.{Over}
use Rattle.apl_struct.proofs.rotating.rotate_each.Goals as goal
use Rattle.apl_struct.proofs.rotating.rotate_each.Goals.{After-inner-inner}

pub returns-then-count-eq0 : goal.returns-then-count-eq0
returns-then-count-eq0 g c = λ element told.
    let shapes : c.in_ok-shape.shape ≡ c.args.b.now.shape = search rules in
    rw (sym shapes) (c.empty.ensures element)

facts : (g : Over) (c : After-inner-inner g) → AxisFacts (count_of (take c.args.k c.in_ok-shape.shape)) c.axis-length.result c.inner-inner.result c.count.result
facts g c =
    let k = c.args.k in
    let shape = c.in_ok-shape.shape in
    let shapes : shape ≡ c.args.b.now.shape = search rules in
    let count : c.count.result ≡ count_of (take k shape) * c.axis-length.result * c.inner-inner.result =
    rw (c.axis-length.ensures.length, c.inner-inner.ensures.inner) (c.count.ensures.count ∙ c.replaced_index_has_place.ensures.count shape k (omega (arith, c.requires, ap length shapes))) in
    axis_facts (count_of (take k shape)) c.axis-length.result c.inner-inner.result c.count.result count (omega arith)

pub invariant_of-rotate_lines : goal.invariant_of-rotate_lines
invariant_of-rotate_lines g c =
    let n = c.axis-length.result in
    let zs = c.args.rotations.now in
    let by = c.as_slice-by.result.now in
    let by_is : by ≡ map (rotation_of n) zs = search rules in
    let axis = facts g (goal.at.invariant_of-rotate_lines g c).After-inner-inner in
    record {
      some = axis.length_some;
      most = omega (arith, axis.length_most, c.count.ensures.lawful.count, c.count.ensures.count);
      below = λ line. rw by_is (rotation_at_line_most n zs line);
    }

pub rotate_lines-requires-clause-some : goal.rotate_lines-requires-clause-some
rotate_lines-requires-clause-some g c = λ lifetimes outlive.
    (facts g (goal.at.rotate_lines-requires-clause-some g c).After-inner-inner).inner_some

pub rotate_lines-requires-clause-most : goal.rotate_lines-requires-clause-most
rotate_lines-requires-clause-most g c = λ lifetimes outlive.
    omega (arith, (facts g (goal.at.rotate_lines-requires-clause-most g c).After-inner-inner).inner_most, c.count.ensures.lawful.count, c.count.ensures.count)

pub returns : goal.returns
returns g c = λ element told.
    let b = c.args.b.now in
    let k = c.args.k in
    let zs = c.args.rotations.now in
    let law = c.places_match_index_lists.ensures in
    let others = c.inserted_index_has_place.ensures in
    let replaced = c.replaced_index_has_place.ensures in
    let n = slice_index b.shape k in
    let inner = count_of (drop (k + 1) b.shape) in
    let by = c.as_slice-by.result.now in
    let shapes : c.in_ok-shape.shape ≡ b.shape = search rules in
    let n_is : c.axis-length.result ≡ n = c.axis-length.ensures.length ∙ ap (λ s. slice_index s k) shapes in
    let inner_is : c.inner-inner.result ≡ inner = c.inner-inner.ensures.inner ∙ ap (λ s. count_of (drop (k + 1) s)) shapes in
    let by_is : by ≡ map (rotation_of n) zs = (let plain : by ≡ map (rotation_of c.axis-length.result) zs = search rules in plain) ∙ ap (λ m. map (rotation_of m) zs) n_is in
    (rw (shapes, n_is, inner_is) at c.rotate_lines.ensures) element (λ place inside.
    let index = index_at b.shape place in
    let lawful : IsIndexOf b.shape index = law.lawful b.shape place inside in
    let i = line_index n inner place in
    let l = line_number n inner place in
    let z = slice_index_or zs (place_of (remove b.shape k) (remove index k)) (pos 0) in
    let index_is : slice_index index k ≡ i = c.split_index_has_place.ensures.index b.shape k place c.requires in
    let below : i < n = omega (arith, index_is, lawful.below k c.requires) in
    let line : l ≡ place_of (remove b.shape k) (remove index k) =
    line_is law.below law.lawful law.same_index law.same_place others.lawful others.place b.shape k place (count_of (take k b.shape)) c.requires inside
    (replaced.count b.shape k c.requires) (others.count b.shape k c.requires) in
    let turn : slice_index by l ≡ rotation_of n z =
    rw by_is (rotation_at_line n zs l ∙ ap (λ m. rotation_of n (slice_index_or zs m (pos 0))) line) in
    let rotated : wrapped n (i + slice_index by l) ≡ rotated_index z n (slice_index index k) =
    ap (λ y. wrapped n (i + y)) turn ∙ sym (rotated_by z n i below) ∙ ap (rotated_index z n) (sym index_is) in
    let j = wrapped n (i + slice_index by l) in
    let j_below : j < n =
    wrapped_below n i (slice_index by l) below (let most : slice_index by l ≤ n = rw by_is (rotation_at_line_most n zs l) in most) in
    let taken = slice_set index k j in
    let same : line_place n inner (n * inner) place j ≡ place_of b.shape taken = omega (arith, replaced.place b.shape k place j c.requires inside) in
    ap (λ p. filled_at b (Some p)) same
    ∙ filled_within law.below b taken c.shape.ensures.lawful (replaced.lawful b.shape index k j lawful j_below)
    ∙ ap (λ m. element_at b (slice_set index k m)) rotated ∙ told index lawful)
