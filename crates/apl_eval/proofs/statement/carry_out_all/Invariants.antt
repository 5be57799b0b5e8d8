use Rattle.apl_eval.specs.Steps.{staged_in}
use Rattle.apl_eval.proofs.StepLemmas.{ComesTo}
use Rattle.apl_eval.proofs.statement.carry_out_all.Given as goal

abbrev pub invariant-operations : goal.invariant-operations
invariant-operations g l = ComesTo l.operations l.context.workspace.now l.operation-index l.stack (staged_in l.staged l.context.workspace.now)
