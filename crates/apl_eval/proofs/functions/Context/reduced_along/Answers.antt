use Rattle.apl_answer.specs.Rows as rows
use Rattle.apl_reduce.specs.Reducing.{reduce_row}
use Rattle.apl_scan.specs.Scanning.{scan_row}
use Rattle.apl_eval.proofs.functions.Context.reduced_along.Goals as goal

pub returns-in-Reduction : goal.returns-in-Reduction
returns-in-Reduction g c =
    let answers = c.result_of.ensures (rows.result_of (reduce_row c.args.function.now c.args.b.now c.args.axis)) (rw c.function-f.ensures.value at c.reduce.ensures) in
    rw c.in-Reduction.is answers

pub returns-in-Scan : goal.returns-in-Scan
returns-in-Scan g c =
    let answers = c.result_of-in-Scan.ensures (rows.result_of (scan_row c.args.function.now c.args.b.now c.args.axis)) (rw c.function-f.ensures.value at c.scan.ensures) in
    rw c.in-Scan.is answers
