use Rattle.std.proofs.Common.{◌≡◌, Ok, ◌+◌, true, false, length, slice_index, slice_index_or, pos, to_z, of_z, w64, refl, ap, sym, ◌∙◌, arith, rules}
use Rattle.std.specs.Prelude.{◌||◌, ◌==◌, remove}
use Rattle.std.proofs.lemmas.Slice.Eq.{bytes_eq-Decides}
use Rattle.apl_array.specs.Axes.{axis_of}
use Rattle.apl_array.specs.Shape.{count_of, index_at}
use Rattle.apl_answer.specs.Arguments.{rank_of, has_one_element, is_same_shape}
use Rattle.apl_answer.specs.Rows.{HavePassed}
use Rattle.apl_struct.specs.Gathering.{along_axis}
use Rattle.apl_struct.specs.Rearranging.{rotated_index, rotation_at, rotate_row}
use Rattle.apl_struct.proofs.Elements.{scalar_element}
use Rattle.apl_struct.proofs.Passing.{answered}
use Rattle.apl_struct.proofs.Rotations.{rotation_of_all, rotation_of_line}
use Rattle.apl_struct.proofs.rotating.rotate.Given.{Over}
use Rattle.apl_struct.proofs.rotating.rotate.Goals as goal
use Rattle.apl_struct.proofs.rotating.rotate.Goals.{After-rank-2}

judged : (g : Over) (c : After-rank-2 g) → (c.in-Some.k ≡ axis_of c.args.axis (rank_of c.args.b.now)) × HavePassed (rotate_row c.args.a.now c.args.b.now c.args.axis).checks
judged g c =
    let a = c.args.a.now in
    let b = c.args.b.now in
    let k = axis_of c.args.axis (rank_of b) in
    let rank : c.rank.result ≡ rank_of b = c.rank.ensures.rank ∙ ap length c.shape.ensures.shape in
    let at = rw rank at c.in-Some.ensures in
    let k_is : c.in-Some.k ≡ k = at.1 in
    let rank_fits : (has_one_element a.shape || (rank_of a + 1 == rank_of b)) ≡ true = search rules in
    let fit : (has_one_element a.shape || is_same_shape a.shape (remove b.shape c.in-Some.k)) ≡ true = search rules in
    let lengths_fit : (has_one_element a.shape || is_same_shape a.shape (remove b.shape k)) ≡ true = rw k_is at fit in
    (k_is, (at.0, (rank_fits, (lengths_fit, (c.in_ok-rotations.ensures.numbers.0, tt)))))

pub returns-then-rank-eq0 : goal.returns-then-rank-eq0
returns-then-rank-eq0 g c =
    let a = c.args.a.now in
    let b = c.args.b.now in
    let k = axis_of c.args.axis (rank_of b) in
    let known = judged g (goal.at.returns-then-rank-eq0 g c).After-rank-2 in
    let none : length b.shape ≡ 0 = search rules in
    answered (rotate_row a b c.args.axis) c.array_copy.result known.1
    (c.array_copy.ensures.by_place _ (λ place inside.
    let index = index_at b.shape place in
    ap Ok (scalar_element b place (along_axis k (rotated_index (rotation_at a k index) (slice_index b.shape k)) index) none inside)))

pub returns-then-serves_all : goal.returns-then-serves_all
returns-then-serves_all g c =
    let a = c.args.a.now in
    let b = c.args.b.now in
    let k = axis_of c.args.axis (rank_of b) in
    let known = judged g (goal.at.returns-then-serves_all g c).After-rank-2 in
    let counts : count_of a.shape ≡ 1 = search rules in
    let one : has_one_element a.shape ≡ true = grind (arith, counts) in
    let zs = c.as_slice-rotations.result.now in
    let z = slice_index_or zs 0 (pos 0) in
    let same : to_z w64 (of_z w64 z) ≡ z = search rules in
    answered (rotate_row a b c.args.axis) c.rotate_all.result known.1
    (c.rotate_all.ensures _ (λ index lawful. rw (known.0, same, rotation_of_all a zs k index (c.in_ok-rotations.ensures.numbers.1 ∙ sym c.as_slice-rotations.ensures) one) refl))

pub returns : goal.returns
returns g c =
    let a = c.args.a.now in
    let b = c.args.b.now in
    let k = axis_of c.args.axis (rank_of b) in
    let known = judged g (goal.at.returns g c).After-rank-2 in
    let many : count_of a.shape ≡ 1 → ⊥ = search rules in
    let more : has_one_element a.shape ≡ false = grind (arith, many) in
    let zs = c.as_slice-rotations.result.now in
    let others : a.shape ≡ remove b.shape k = (bytes_eq-Decides a.shape (remove b.shape k)).0 (rw more at known.1.1.1.0) in
    answered (rotate_row a b c.args.axis) c.rotate_each.result known.1
    (c.rotate_each.ensures _ (λ index lawful. rw (known.0, rotation_of_line a zs (remove b.shape k) k index (c.in_ok-rotations.ensures.numbers.1 ∙ sym c.as_slice-rotations.ensures) more others) refl))
