use Rattle.std.proofs.Common.{◌≡◌, vec_len}
use Rattle.apl_pool.proofs.ends.deal.Given as goal

abbrev pub invariant-loop-task : goal.invariant-loop-task
invariant-loop-task l = vec_len l.thieves ≡ l.task

abbrev pub invariant-loop-step : goal.invariant-loop-step
invariant-loop-step l = vec_len l.thieves ≡ l.tasks
