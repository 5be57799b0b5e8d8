use Rattle.std.proofs.Common.{◌≡◌, ℕ, ◌+◌, ◌<◌, ◌≤◌, length, slice_index_or}
use Rattle.apl_scalar.proofs.runs.BoolHeldRuns.write_block.Given as goal

abbrev pub invariant-loop-k : goal.invariant-loop-k
invariant-loop-k g l = record {
  less : (j : ℕ) (d : _) → j < l.done → slice_index_or l.room j d ≡ slice_index_or l.initial.room j d;
  here : (j : ℕ) (d : _) → j < l.k → slice_index_or l.room (l.done + j) d ≡ slice_index_or l.block j d;
  more : (j : ℕ) (d : _) → l.done + l.k ≤ j → slice_index_or l.room j d ≡ slice_index_or l.initial.room j d;
  len : length l.room ≡ length l.initial.room;
}
