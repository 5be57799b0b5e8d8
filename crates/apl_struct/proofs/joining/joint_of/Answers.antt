use Rattle.std.proofs.Common.{◌≡◌, ℕ, List, ◌++◌, ◌+◌, ◌<◌, true, length, take, drop, slice_index, sym, ap, ◌∙◌, arith, rules}
use Rattle.std.specs.Prelude.{remove, slice_set}
use Rattle.std.proofs.Math.Seq.{take-append_seam}
use Rattle.std.proofs.lemmas.List.{length-set, get_or_default}
use Rattle.std.specs.Cmp.Lexicographic.{same_text}
use Rattle.apl_answer.specs.Arguments.{is_same_shape}
use Rattle.apl_struct.specs.Joining.{slices_shape}
use Rattle.apl_struct.proofs.Joints.{same_but_for}
use Rattle.apl_struct.proofs.joining.joint_of.Goals as goal

written : (xs ys : List ℕ) → length ys ≡ length xs → take (length xs) (ys ++ drop (length ys) xs) ≡ ys
written xs ys same = ap (λ n. take n (ys ++ drop (length ys) xs)) (sym same) ∙ take-append_seam ys (drop (length ys) xs)

pub returns : goal.returns
returns c =
    let k = c.args.k in
    let own = slices_shape c.args.rank k c.args.a.now c.args.b.now in
    let other = slices_shape c.args.rank k c.args.b.now c.args.a.now in
    let owns : c.in_ok-lengths.lengths.items ≡ own = c.in_ok-lengths.ensures.lengths in
    let others : c.in_ok-joined.joined.items ≡ other = c.in_ok-joined.ensures.lengths in
    let axis : k < length own = omega (arith, ap length owns, c.in_ok-lengths.ensures.axes, c.requires.axis) in
    let axis' : k < length other = omega (arith, ap length others, c.in_ok-joined.ensures.axes, c.requires.axis) in
    let left : c.remove-left.result ≡ slice_index own k =
    c.remove-left.ensures.value ∙ get_or_default c.in_ok-lengths.lengths.items k c.remove-left.result 0 (omega (arith, ap length owns, axis)) ∙ ap (λ l. slice_index l k) owns in
    let kept : c.remove-left.new.self.items ≡ remove own k = c.remove-left.ensures.items ∙ ap (λ l. remove l k) owns in
    let same : is_same_shape (remove own k) (remove other k) ≡ true = search rules in
    let joined = slice_set other k (slice_index other k + slice_index own k) in
    let shape : slice_set own k (slice_index other k + slice_index own k) ≡ joined = same_but_for own other k _ axis axis' (same_text (remove own k) (remove other k) (sym same)) in (
      same,
      rw (c.as_mut_slice.ensures.value, others, left) (written other joined (length-set other k _) ∙ sym shape ∙ ap (slice_set own k) (omega arith)),
      left,
    )
