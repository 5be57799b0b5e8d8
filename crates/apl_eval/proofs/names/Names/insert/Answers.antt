use Rattle.apl_eval.proofs.NameLemmas.{names_in-updates}
use Rattle.apl_eval.proofs.names.Names.insert.Goals as goal

pub returns-clause-ok : goal.returns-clause-ok
returns-clause-ok c = rw (← c.self.view_is, ← c.in_ok-name.ensures.ok) (names_in-updates c.self.inside.values c.insert.new.self _ c.args.value c.in_ok-insert.ensures.updates)
