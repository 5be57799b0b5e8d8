use Rattle.std.specs.Prelude.{map, option_copied}
use Rattle.apl_answer.specs.Rows as rows
use Rattle.apl_struct.specs.Indexing.{replace_row}
use Rattle.apl_eval.specs.Functions.{assign_at_result}
use Rattle.apl_eval.proofs.NameLemmas.{refused}
use Rattle.apl_eval.proofs.functions.Context.assign_at.Goals as goal

pub returns-in-Err-clause-err : goal.returns-in-Err-clause-err
unfolding assign_at_result
returns-in-Err-clause-err g c =
    let row = replace_row c.args.array.now (map option_copied c.args.slots.now) c.args.value.now c.args.self.now.workspace.now.origin in
    let fault = rw (c.origin-origin.ensures) at c.in-Err.ensures.err in
    rw c.from.ensures (refused (rows.result_of row) c.in-Err.fault fault)
