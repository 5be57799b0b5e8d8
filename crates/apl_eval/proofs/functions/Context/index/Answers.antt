use Rattle.std.specs.Prelude.{map, option_copied}
use Rattle.apl_answer.specs.Rows as rows
use Rattle.apl_struct.specs.Indexing.{select_row}
use Rattle.apl_eval.specs.Functions.{index_result}
use Rattle.apl_eval.proofs.functions.Context.index.Goals as goal

pub returns : goal.returns
unfolding index_result
returns g c =
    c.result_of.ensures (rows.result_of (select_row c.args.array.now (map option_copied c.args.slots.now) c.args.self.now.workspace.now.origin))
    (rw c.origin-origin.ensures at c.select.ensures)
