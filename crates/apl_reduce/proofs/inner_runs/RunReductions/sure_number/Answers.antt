use Rattle.std.proofs.Common.{map}
use Rattle.apl_reduce.specs.Layouts.{inner_item}
use Rattle.apl_reduce.proofs.ItemRuns.{number_of_fold}
use Rattle.apl_reduce.proofs.inner_runs.RunReductions.sure_number.Goals as goal

pub returns-clause-value : goal.returns-clause-value
returns-clause-value g c =
    let x = c.args.self.now.items in
    let is = c.line.ensures in
    let item = inner_item x.layout.now (map g.T.ElementType.elem_of x.left.now) (map g.U.ElementType.elem_of x.right.now) x.pairing.0 c.args.place in
    number_of_fold item c.args.self.now.f x.layout.now.items c.sure_fold.result c.args.self.now.some
    (rw (is.left, is.left_start, is.left_stride, is.right, is.right_start, is.right_stride, is.count, is.pairing) at c.sure_fold.ensures.value)
