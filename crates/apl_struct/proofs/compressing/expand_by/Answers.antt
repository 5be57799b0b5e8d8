use Rattle.std.proofs.Common.{inl, sym, arith, rules}
use Rattle.apl_struct.proofs.Counts.{expanded_answer, expanded_refused, ones_most}
use Rattle.apl_struct.proofs.compressing.expand_by.Goals as goal

pub vector_length-requires-clause-most : goal.vector_length-requires-clause-most
vector_length-requires-clause-most g c = omega (arith, c.in_ok-before.ensures.1, ones_most c.args.truths.now, c.requires.most)

pub returns-then-count-vector_length : goal.returns-then-count-vector_length
returns-then-count-vector_length g c = λ bits is.
    rw is (inl (sym (expanded_refused c.args.b.now c.args.k c.in_ok-before.count c.args.truths.now c.in_ok-before.ensures.1 (search rules))))

pub returns : goal.returns
returns g c = λ bits is.
    rw is
    (expanded_answer c.args.b.now c.args.k c.in_ok-before.count c.args.truths.now c.gather_along.result c.in_ok-before.ensures.1 (search rules) c.gather_along.ensures)
