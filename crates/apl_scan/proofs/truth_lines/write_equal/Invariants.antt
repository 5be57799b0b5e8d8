use Rattle.std.proofs.Common.{◌≡◌, ◌⊎◌, ℕ, ◌<◌, ◌≤◌, Bool, slice_index_or}
use Rattle.apl_scan.proofs.truth_lines.write_equal.Given as goal

abbrev pub invariant-loop-k : goal.invariant-loop-k
invariant-loop-k l = record {
  within : (k : ℕ) (d : Bool) → l.from ≤ k → k < l.k → slice_index_or l.room k d ≡ l.value;
  outside : (k : ℕ) (d : Bool) → (k < l.from) ⊎ (l.k ≤ k) → slice_index_or l.room k d ≡ slice_index_or l.initial.room k d;
}
