use Rattle.std.proofs.Common.{◌≡◌, vec_len}
use Rattle.std.specs.Prelude.{reverse}
use Rattle.apl_grammar.specs.Automaton.{after_operand}
use Rattle.apl_grammar.proofs.reader.Reader.complete.Given as goal

abbrev pub invariant-loop-waiting : goal.invariant-loop-waiting
invariant-loop-waiting l = after_operand l.self.operations (reverse l.self.stack.items) ≡ after_operand l.initial.self.operations (reverse l.initial.self.stack.items)

abbrev pub decreases-loop-waiting : goal.decreases-loop-waiting
decreases-loop-waiting l = vec_len l.self.stack
