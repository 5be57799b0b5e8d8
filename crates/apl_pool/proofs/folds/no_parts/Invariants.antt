use Rattle.std.proofs.Common.{◌≡◌, vec_len, vec_capacity}
use Rattle.apl_pool.proofs.folds.no_parts.Given as goal

abbrev pub invariant-loop : goal.invariant-loop
invariant-loop g l = (vec_len l.parts ≡ l.counter) × (vec_capacity l.parts ≡ vec_capacity l.initial.parts)
