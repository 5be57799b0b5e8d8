use Rattle.std.proofs.Common.{vec_len}
use Rattle.std.specs.Prelude.{reverse}
use Rattle.apl_grammar.specs.Automaton.{HasRead, machine}
use Rattle.apl_grammar.proofs.reader.parse.Given as goal

abbrev pub invariant-loop-token : goal.invariant-loop-token
invariant-loop-token l = HasRead l.fn.tokens.items l.rest.items (machine l.reader.operations (reverse l.reader.stack.items) l.reader.state) l.first

abbrev pub decreases-loop-token : goal.decreases-loop-token
decreases-loop-token l = vec_len l.rest
