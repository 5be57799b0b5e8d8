use Rattle.std.proofs.Common.{length, arith}
use Rattle.apl_reduce.proofs.FourSums.{left_start, right_start, left_item, right_item}
use Rattle.apl_reduce.proofs.sums.Sums.starts.Goals as goal

pub overflow_mul-result : goal.overflow_mul-result
overflow_mul-result c =
    let sums = c.args.self.now in
    omega (arith, left_start sums.layout.now (length sums.left.now) (length sums.right.now) c.args.line c.args.column sums.within c.requires.column c.requires.place)

pub overflow_mul-result-2 : goal.overflow_mul-result-2
overflow_mul-result-2 c =
    let sums = c.args.self.now in
    omega (arith, right_start sums.layout.now (length sums.left.now) (length sums.right.now) c.args.line c.args.column sums.within c.requires.column c.requires.place)

pub returns-clause-left_items : goal.returns-clause-left_items
returns-clause-left_items c =
    let sums = c.args.self.now in
    left_item sums.layout.now (length sums.left.now) (length sums.right.now) c.args.line c.args.column sums.within c.requires.column c.requires.place

pub returns-clause-right_items : goal.returns-clause-right_items
returns-clause-right_items c =
    let sums = c.args.self.now in
    right_item sums.layout.now (length sums.left.now) (length sums.right.now) c.args.line c.args.column sums.within c.requires.column c.requires.place
