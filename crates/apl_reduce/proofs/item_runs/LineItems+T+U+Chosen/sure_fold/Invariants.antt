use Rattle.std.proofs.Common.{◌≡◌, ◌+◌, ◌-◌, ◌<◌, map, length, Ok}
use Rattle.apl_reduce.specs.declared.item_runs.TheConstants.{LONGEST_RUN}
use Rattle.apl_scalar.specs.Meeting.{meeting_number}
use Rattle.apl_reduce.specs.Items.{folded_from}
use Rattle.apl_reduce.proofs.item_runs.LineItems+T+U+Chosen.sure_fold.Given as goal

abbrev pub invariant-loop-k : goal.invariant-loop-k
invariant-loop-k g l =
    let x = l.self in
    let left = map g.T.ElementType.elem_of x.left.now in
    let right = map g.U.ElementType.elem_of x.right.now in
    let item = meeting_number x.pairing.0 left x.left_start x.left_stride right x.right_start x.right_stride in
    record {
      below : l.k < x.count;
      value : folded_from item l.f l.k (x.count - 1 - l.k) ≡ Ok l.folded;
      len : length l.room ≡ LONGEST_RUN + 1;
    }

abbrev pub decreases-loop-k : goal.decreases-loop-k
decreases-loop-k g l = l.k
