use Rattle.std.proofs.Common.{◌≡◌, ℕ, ◌<◌, Bool, not, slice_index_or}
use Rattle.apl_scan.proofs.truth_lines.count_before.Given as goal

abbrev pub invariant-loop-place : goal.invariant-loop-place
invariant-loop-place l = (k : ℕ) (d : Bool) → k < l.place → slice_index_or l.truths k d ≡ not l.end
