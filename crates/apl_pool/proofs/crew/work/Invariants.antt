use Rattle.apl_pool.specs.Crew.{AreSeatsOf}
use Rattle.apl_pool.proofs.crew.work.Given as goal

abbrev pub invariant-loop : goal.invariant-loop
invariant-loop g l = AreSeatsOf l.rooms l.board l.seats 1
