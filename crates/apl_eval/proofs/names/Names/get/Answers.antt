use Rattle.apl_eval.proofs.NameLemmas.{found_value}
use Rattle.apl_eval.proofs.names.Names.get.Goals as goal

pub returns : goal.returns
returns c = rw (← c.self.view_is) (found_value c.self.inside.values c.args.name.now c.get.result c.get.ensures.value)
