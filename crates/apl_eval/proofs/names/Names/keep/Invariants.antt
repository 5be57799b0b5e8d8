use Rattle.apl_eval.specs.Names.{overlaid}
use Rattle.apl_eval.proofs.NameLemmas.{Keeps}
use Rattle.apl_eval.proofs.names.Names.keep.Given as goal

-- the names that are left are over those that are there
abbrev pub invariant-staged : goal.invariant-staged
invariant-staged l = Keeps (overlaid l.fn.staged l.fn.self) l.name-iterator l.self-inside.values
