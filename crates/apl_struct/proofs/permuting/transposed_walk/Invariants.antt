use Rattle.std.proofs.Common.{◌≡◌, ℕ, ◌+◌, ◌≤◌, drop, length, vec_len}
use Rattle.std.specs.Prelude.{Some}
use Rattle.apl_array.specs.Shape.{count_of, index_at}
use Rattle.apl_array.specs.Transposition.{inner_product, source_strides}
use Rattle.apl_walk.specs.Maps.{extent_of, walked}
use Rattle.apl_walk.specs.Walks.{maps_of}
use Rattle.apl_struct.proofs.permuting.transposed_walk.Given as goal

abbrev pub invariant-loop-j : goal.invariant-loop-j
invariant-loop-j l = record {
  few : vec_len l.walk.inner + l.j ≤ length l.shape;
  extent : extent_of (maps_of l.walk) ≡ count_of (drop l.j l.shape);
  place : (place : ℕ) → walked (maps_of l.walk) place
      ≡ Some (inner_product (index_at (drop l.j l.shape) place) (drop l.j (source_strides (length l.shape) l.axes l.argument)));
}
