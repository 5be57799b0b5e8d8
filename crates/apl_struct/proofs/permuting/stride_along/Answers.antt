use Rattle.std.proofs.Common.{◌≡◌, ◌+◌, ◌-◌, drop, slice_index, arith}
use Rattle.std.proofs.lemmas.Bool.{eq-eqb, ne_eqb}
use Rattle.apl_array.specs.Shape.{count_of}
use Rattle.apl_array.specs.Transposition.{strides}
use Rattle.apl_struct.proofs.Taken.{from_axis, count_drop}
use Rattle.apl_struct.proofs.Permuted.{sum-items_onto}
use Rattle.apl_struct.proofs.permuting.stride_along.Goals as goal

pub overflow_add-stride : goal.overflow_add-stride
overflow_add-stride c =
    let less = (count_drop c.args.argument.now (c.loop-k.k - 1 + 1) _ c.requires.some c.inner-stride.ensures.lawful.count).1 in
    omega (arith, less, c.inner-stride.ensures.inner, c.inner-stride.ensures.lawful.rank, c.loop-k.invariant.most)

pub loop-k-preserved-then-axes-k : goal.loop-k-preserved-then-axes-k
loop-k-preserved-then-axes-k c =
    let k = c.loop-k.k in
    let argument = c.args.argument.now in
    let axes = c.args.axes.now in
    let back : k - 1 + 1 ≡ k = omega arith in
    let less = (count_drop argument (k - 1 + 1) _ c.requires.some c.inner-stride.ensures.lawful.count).1 in
    let more = sum-items_onto c.args.j (slice_index axes (k - 1)) (count_of (drop k argument)) (drop k axes) (strides (drop k argument)) in
    record {
      sum = rw (
        from_axis argument k 0 c.loop-k-test.true (omega arith),
        from_axis axes k 0 c.loop-k-test.true (omega (arith, c.requires.len)),
        more,
        eq-eqb _ _ c.if-axes-k.true,
        c.inner-stride.ensures.inner,
        back,
      ) (omega (arith, c.loop-k.invariant.sum));
      most = omega (arith, less, c.inner-stride.ensures.inner, c.loop-k.invariant.most);
    }

pub loop-k-preserved : goal.loop-k-preserved
loop-k-preserved c =
    let k = c.loop-k.k in
    let argument = c.args.argument.now in
    let axes = c.args.axes.now in
    let more = sum-items_onto c.args.j (slice_index axes (k - 1)) (count_of (drop k argument)) (drop k axes) (strides (drop k argument)) in
    record {
      sum = rw (from_axis argument k 0 c.loop-k-test.true (omega arith), from_axis axes k 0 c.loop-k-test.true (omega (arith, c.requires.len)), more, ne_eqb _ _ c.if-axes-k.false)
          (omega (arith, c.loop-k.invariant.sum));
      most = omega (arith, c.loop-k.invariant.most);
    }
