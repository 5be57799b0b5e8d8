use Rattle.std.proofs.Common.{◌≡◌, ℕ, ℤ, pos, ◌+◌, ◌<◌, slice_index_or}
use Rattle.apl_struct.proofs.building.ConsecutiveKernel.write_run.Given as goal

abbrev pub invariant-loop-k : goal.invariant-loop-k
invariant-loop-k l = (k : ℕ) (d : ℤ) → k < l.k → pos (l.self.first + (l.from + k)) ≡ slice_index_or l.room k d
