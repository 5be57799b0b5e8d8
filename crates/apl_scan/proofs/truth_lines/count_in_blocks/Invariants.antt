use Rattle.std.proofs.Common.{◌≡◌, ℕ, ◌*◌, ◌<◌, Bool, not, slice_index_or}
use Rattle.apl_scan.proofs.truth_lines.count_in_blocks.Given as goal

abbrev pub invariant-loop-block : goal.invariant-loop-block
invariant-loop-block l = (k : ℕ) (d : Bool) → k < l.block * 64 → slice_index_or l.truths k d ≡ not l.end
