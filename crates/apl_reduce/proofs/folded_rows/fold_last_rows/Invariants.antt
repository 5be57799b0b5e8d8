use Rattle.std.proofs.Common.{◌≡◌, length, map}
use Rattle.apl_pool.specs.Runs.{AreWritten}
use Rattle.apl_scalar.specs.Scalar.{dyadic_of}
use Rattle.apl_reduce.specs.Items.{item_in}
use Rattle.apl_reduce.proofs.folded_rows.fold_last_rows.Given as goal

abbrev pub invariant-loop-j : goal.invariant-loop-j
invariant-loop-j g l =
    AreWritten (λ j. dyadic_of g.F.Function.FUNCTION (item_in (map g.T.ElementType.elem_of l.left) j) (item_in (map g.T.ElementType.elem_of l.right) j)) 0 l.j l.totals
    × (length l.totals ≡ length l.initial.totals)
