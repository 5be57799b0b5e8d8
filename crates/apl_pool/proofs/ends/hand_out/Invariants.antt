use Rattle.std.proofs.Common.{◌≡◌, vec_len}
use Rattle.apl_pool.proofs.ends.hand_out.Given as goal

abbrev pub invariant-loop-task : goal.invariant-loop-task
invariant-loop-task l = vec_len l.thieves ≡ vec_len l.initial.thieves
