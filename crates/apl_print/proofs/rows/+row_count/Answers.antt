use Rattle.std.proofs.Common.{sym}
use Rattle.apl_print.proofs.TableLemmas.{row_count_small}
use Rattle.apl_print.proofs.rows.+row_count.Goals as goal

pub returns-in-empty-clause-rows : goal.returns-in-empty-clause-rows
returns-in-empty-clause-rows t c = sym (row_count_small c.args.lengths.now c.in-empty.len_below)
