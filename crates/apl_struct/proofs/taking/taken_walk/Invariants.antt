use Rattle.std.proofs.Common.{◌≡◌, ℕ, ◌+◌, ◌≤◌, drop, length, map, vec_len}
use Rattle.std.specs.Prelude.{nat_abs, option_map}
use Rattle.apl_array.specs.Shape.{count_of, place_of, index_at}
use Rattle.apl_struct.specs.Taking.{take_source}
use Rattle.apl_walk.specs.Maps.{extent_of, walked}
use Rattle.apl_walk.specs.Walks.{maps_of}
use Rattle.apl_struct.proofs.taking.taken_walk.Given as goal

abbrev pub invariant-loop-k : goal.invariant-loop-k
invariant-loop-k l = record {
  few : vec_len l.walk.inner + l.k ≤ length l.numbers;
  extent : extent_of (maps_of l.walk) ≡ count_of (map nat_abs (drop l.k l.numbers));
  place : (place : ℕ) → walked (maps_of l.walk) place
      ≡ option_map (place_of (drop l.k l.argument)) (take_source (drop l.k l.numbers) (drop l.k l.argument) (index_at (map nat_abs (drop l.k l.numbers)) place));
}
