use Rattle.std.proofs.Common.{◌/◌, ◌%◌, ap, ◌∙◌, arith}
use Rattle.apl_reduce.proofs.OuterRows.{row_pair}
use Rattle.apl_reduce.proofs.outer_products.EachPair.row_from.Goals as goal

pub returns-clause-pairs : goal.returns-clause-pairs
returns-clause-pairs g c f k inside =
    let pairs = c.args.self.now in
    let column = c.remainder-column.ensures.value ∙ ap (λ n. c.args.from % n) pairs.columns_are in
    let row = c.quotient.ensures.value ∙ ap (λ n. c.args.from / n) pairs.columns_are in
    row_pair g.T.ElementType.elem_of g.U.ElementType.elem_of f pairs.left.now pairs.right.now c.args.from _ _ _ k _ column row (omega (arith, pairs.count_is)) inside
