use Rattle.std.proofs.Common.{◌≡◌, ℕ, ◌+◌, ◌*◌, ◌<◌, Ok, length, slice_index_or}
use Rattle.apl_scalar.specs.Scalar.{truth_outcome}
use Rattle.apl_scalar.proofs.runs.BoolHeldRuns.write_rest.Given as goal

abbrev pub invariant-loop-k : goal.invariant-loop-k
invariant-loop-k g l = record {
  sure : l.all_doubts ≡ 0 → (j : ℕ) (d : _) → j < l.done + l.k * 16 → j < l.count → truth_outcome (g.P.Results.outcome l.results (l.from + j)) ≡ Ok (slice_index_or l.room j d);
  len : length l.room ≡ length l.initial.room;
}
