use Rattle.std.proofs.Common.{◌≡◌, ◌+◌, true, slice_index, sym, ap, ◌∙◌, rules}
use Rattle.std.specs.Prelude.{◌||◌, ◌&&◌, not, slice_set}
use Rattle.apl_array.specs.Axes.{axis_of}
use Rattle.apl_array.specs.Shape.{is_shape}
use Rattle.apl_answer.specs.Arguments.{has_elements, is_same_kind}
use Rattle.apl_struct.specs.Joining.{joined_rank, can_join, slices_shape, catenate_row}
use Rattle.apl_struct.proofs.Passing.{answered}
use Rattle.apl_struct.proofs.joining.catenate.Goals as goal

pub returns : goal.returns
returns g c =
    let a = c.args.a.now in
    let b = c.args.b.now in
    let row = catenate_row a b c.args.axis in
    let rank = joined_rank a b in
    let k = axis_of c.args.axis rank in
    let own = slices_shape rank k a b in
    let other = slices_shape rank k b a in
    let n = slice_index own k in
    let m = slice_index other k in
    let rank_is : c.joined_rank-rank.result ≡ rank = c.joined_rank-rank.ensures.rank in
    let at = rw rank_is at c.in-Some.ensures in
    let k_is : c.in-Some.k ≡ k = at.1 in
    let ranks : can_join a b ≡ true = search rules in
    let joint = rw (rank_is, k_is) at c.in_ok-lengths.ensures in
    let kinds : (not (has_elements a && has_elements b) || is_same_kind a.kind b.kind) ≡ true = search rules in
    let lawful : is_shape (slice_set own k (n + m)) ≡ true = ap is_shape (sym joint.1 ∙ sym c.as_slice.ensures) ∙ c.in_ok-shape.ensures.test in
    let shapes : c.in_ok-shape.shape ≡ slice_set own k (n + m) = c.in_ok-shape.ensures.value ∙ c.as_slice.ensures ∙ joint.1 in
    answered row c.join_along.result (at.0, (ranks, (joint.0, (kinds, (lawful, tt))))) (rw (shapes, k_is, joint.2) at c.join_along.ensures)
