use Rattle.std.proofs.Common.{ℕ, ◌+◌, ◌-◌, ◌*◌, ◌/◌, slice_index_or, ap, ◌∙◌, arith}
use Rattle.apl_walk.proofs.Lines.{more_begun}
use Rattle.apl_walk.proofs.Stepped.{values_repeated}
use Rattle.apl_walk.proofs.turned.RepeatedAxisMap.write_line.Goals as goal

pub returns-else-done-count-clause-values : goal.returns-else-done-count-clause-values
returns-else-done-count-clause-values g c =
    let r = c.args.self.now in
    values_repeated c.args.line.now _ c.args._fill r.times r.stride r.axis_length c.args.from c.args.count r.times_some c.requires.within c.requires.near
    (λ k d inside. c.write_indexes-done.ensures.each k d (omega (arith, inside)) (omega (arith, inside)))

pub returns-then-done-count-clause-values : goal.returns-then-done-count-clause-values
returns-then-done-count-clause-values g c =
    let r = c.args.self.now in
    let done = c.write_indexes-done.result in
    let taken = λ (k : ℕ) (d : g.row.T.Denot). slice_index_or c.args.line.now ((c.args.from + k) / r.times * r.stride) d in
    values_repeated c.args.line.now _ c.args._fill r.times r.stride r.axis_length c.args.from c.args.count r.times_some c.requires.within c.requires.near
    (λ k d inside.
    more_begun taken done (c.args.count - done) (c.args.count - done) c.write_indexes-done.new.room c.write_indexes.new.room (omega arith) (omega arith) (omega arith)
    (λ k d before. c.write_indexes-done.ensures.each k d before (omega (arith, before)))
    (λ j d inside. c.write_indexes.ensures.each j d (omega (arith, inside, c.write_indexes.ensures.far)) (omega (arith, inside)) ∙ ap (λ n. slice_index_or c.args.line.now (n / r.times * r.stride) d) (omega arith))
    k d (omega (arith, inside)))
