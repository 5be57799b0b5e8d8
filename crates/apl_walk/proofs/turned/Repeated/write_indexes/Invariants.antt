use Rattle.std.proofs.Common.{◌≡◌, ℕ, ◌+◌, ◌-◌, ◌*◌, ◌/◌, ◌<◌, ◌≤◌, length, slice_index_or}
use Rattle.apl_walk.proofs.turned.Repeated.write_indexes.Given as goal

abbrev pub invariant-loop-done : goal.invariant-loop-done
invariant-loop-done g l = record {
  turn : l.from + l.done + l.left ≡ l.index * l.self.times + l.self.times;
  some : 0 < l.left;
  most : l.left ≤ l.self.times;
  whole : 0 < l.done → l.left ≡ l.self.times;
  few : l.index ≤ l.from + l.done;
  far : l.done < l.limit + l.self.times;
  each : (k : ℕ) (d : g.row.T.Denot) → k < l.done → k < length l.room → slice_index_or l.room k d ≡ slice_index_or l.line ((l.from + k) / l.self.times * l.self.stride) d;
}

abbrev pub decreases-loop-done : goal.decreases-loop-done
decreases-loop-done g l = l.limit - l.done
