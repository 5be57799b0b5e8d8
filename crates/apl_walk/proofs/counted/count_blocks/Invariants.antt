use Rattle.std.proofs.Common.{◌≡◌, ℕ, ◌+◌, ◌*◌, ◌<◌, ◌≤◌, length, slice_index, vec_capacity}
use Rattle.apl_walk.specs.Ones.{ones_before}
use Rattle.apl_walk.proofs.counted.count_blocks.Given as goal

abbrev pub invariant-loop-block : goal.invariant-loop-block
invariant-loop-block l = record {
  len : length l.before.items ≡ l.block;
  each : (block : ℕ) → block < l.block → slice_index l.before.items block ≡ ones_before l.bits (block * 128);
  ones : l.ones ≡ ones_before l.bits (l.block * 128);
  room : l.blocks + 1 ≤ vec_capacity l.before;
}
