use Rattle.apl_reduce.proofs.inner_runs.RunReductionsKernel.at.Goals as goal

pub returns : goal.returns
returns g c =
    let is = c.line-items.ensures in
    rw (is.left, is.left_start, is.left_stride, is.right, is.right_start, is.right_stride, is.count, is.pairing) at c.reduced.ensures
