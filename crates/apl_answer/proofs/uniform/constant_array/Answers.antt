use Rattle.apl_answer.proofs.uniform.constant_array.Goals as goal

pub returns : goal.returns
returns g c = λ outcome same.
    c.array_from_fill.ensures (λ place. c.args.outcome) outcome same
    (rw c.count.ensures.count at c.fill_uniform-filled.ensures.values) (rw c.count.ensures.count at c.fill_uniform-filled.ensures.stop)
