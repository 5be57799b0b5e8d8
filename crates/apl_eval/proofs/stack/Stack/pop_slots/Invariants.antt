use Rattle.apl_eval.specs.Steps.{stack_of}
use Rattle.apl_eval.proofs.StackLemmas.{IsTaken}
use Rattle.apl_eval.proofs.stack.Stack.pop_slots.Given as goal

abbrev pub invariant-slots : goal.invariant-slots
invariant-slots l = IsTaken (stack_of l.initial.self-inside.items.items) l.counter l.slots.items l.self-inside.items.items
