use Rattle.std.proofs.Common.{◌≡◌, ◌+◌, ◌*◌, ◌≤◌, ◌^◌, drop, length}
use Rattle.std.specs.Prelude.{sum}
use Rattle.apl_array.specs.Transposition.{strides, items_onto}
use Rattle.apl_struct.proofs.permuting.stride_along.Given as goal

abbrev pub invariant-loop-k : goal.invariant-loop-k
invariant-loop-k l = record {
  sum : l.stride ≡ sum (items_onto l.j (drop l.k l.axes) (strides (drop l.k l.argument)));
  most : l.stride + l.k * 2 ^ 30 ≤ length l.argument * 2 ^ 30;
}
