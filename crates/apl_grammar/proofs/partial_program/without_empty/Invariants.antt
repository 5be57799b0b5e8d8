use Rattle.std.proofs.Common.{◌≡◌}
use Rattle.apl_grammar.specs.Automaton.{without_empty_places}
use Rattle.apl_grammar.proofs.partial_program.without_empty.Given as goal

abbrev pub invariant-loop-place : goal.invariant-loop-place
invariant-loop-place l = l.operations.items ≡ without_empty_places l.yielded
