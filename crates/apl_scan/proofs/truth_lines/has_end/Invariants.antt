use Rattle.std.proofs.Common.{◌≡◌, ℕ, ◌<◌, Bool, false, not, slice_index_or}
use Rattle.apl_scan.proofs.truth_lines.has_end.Given as goal

abbrev pub invariant-loop-truth : goal.invariant-loop-truth
invariant-loop-truth l = l.found ≡ false → (k : ℕ) (d : Bool) → k < l.truth-index → slice_index_or l.truths k d ≡ not l.end
