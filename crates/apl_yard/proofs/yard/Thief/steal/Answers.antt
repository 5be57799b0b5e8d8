use Rattle.apl_yard.proofs.Keeps.{steals, still_possible}
use Rattle.apl_yard.proofs.yard.Thief.steal.Goals as goal

pub steal_as-requires-clause-takes : goal.steal_as-requires-clause-takes
steal_as-requires-clause-takes c = steals _ _

pub invariant_of-self-clause-possible : goal.invariant_of-self-clause-possible
invariant_of-self-clause-possible c = still_possible _ _ c.steal_as.result _ _ c.args.self.now.possible c.steal_as.ensures.rule
