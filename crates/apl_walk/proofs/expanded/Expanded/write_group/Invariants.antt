use Rattle.std.proofs.Common.{◌≡◌, ℕ, ◌+◌, ◌<◌, slice_index_or}
use Rattle.apl_walk.specs.Ones.{expanded_value}
use Rattle.apl_walk.proofs.expanded.Expanded.write_group.Given as goal

abbrev pub invariant-loop-k : goal.invariant-loop-k
invariant-loop-k g l =
    (k : ℕ) (d : g.row.T.Denot) → k < l.done + l.k → expanded_value l.self.counted.bits.now l.line l.self.stride l.fill (l.from + k) ≡ slice_index_or l.room k d
