use Rattle.std.proofs.Common.{◌≡◌, ◌+◌, Ok, pos, length, map, slice_index_or}
use Rattle.apl_pool.specs.Runs.{AreWritten}
use Rattle.apl_answer.proofs.numbers.WidenedKernel.write_run.Given as goal

abbrev pub invariant-loop-k : goal.invariant-loop-k
invariant-loop-k g l = AreWritten (λ place. Ok (slice_index_or (map g.T.Numeric.number_in l.self.elements.now) place (pos 0))) l.from (l.from + l.k) l.room × (length l.room ≡ length l.initial.room)
