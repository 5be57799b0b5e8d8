use Rattle.apl_answer.proofs.fill.fill_array.Goals as goal

pub returns : goal.returns
returns g c = λ outcome same.
    c.array_from_fill.ensures (g.K.Kernel.outcome c.args.kernel.now) outcome same (rw c.requires at c.fill.ensures.values) (rw c.requires at c.fill.ensures.stop)
