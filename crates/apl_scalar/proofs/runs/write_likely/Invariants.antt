use Rattle.std.proofs.Common.{◌≡◌, ℕ, ◌+◌, ◌<◌, Ok, length, slice_index_or}
use Rattle.apl_scalar.proofs.runs.write_likely.Given as goal

abbrev pub invariant-loop-k : goal.invariant-loop-k
invariant-loop-k g l = record {
  sure : l.all_doubts ≡ 0 → (k : ℕ) (d : _) → k < l.k → g.H.Held.held (g.P.Results.outcome l.results (l.from + k)) ≡ Ok (slice_index_or l.room k d);
  len : length l.room ≡ length l.initial.room;
}
