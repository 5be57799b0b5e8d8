use Rattle.std.proofs.Common.{false, slice_index_or, arith}
use Rattle.apl_walk.proofs.Bits.{bytes_more, byte_most, ones_left}
use Rattle.apl_walk.proofs.counted.skip_ones.Goals as goal

pub bounds-bits-i : goal.bounds-bits-i
bounds-bits-i c = omega (arith, ones_left c.args.bits.now c.loop-left.i 1 (omega arith) (omega (arith, c.loop-left.invariant, c.loop-left-test.true, c.requires)))

pub overflow_add-i : goal.overflow_add-i
overflow_add-i c = omega (arith, ones_left c.args.bits.now c.loop-left.i 1 (omega arith) (omega (arith, c.loop-left.invariant, c.loop-left-test.true, c.requires)))

pub loop-left-smaller : goal.loop-left-smaller
loop-left-smaller c = omega (arith, ones_left c.args.bits.now c.loop-left.i 1 (omega arith) (omega (arith, c.loop-left.invariant, c.loop-left-test.true, c.requires)))

pub loop-left-preserved : goal.loop-left-preserved
loop-left-preserved c =
    let bits = c.args.bits.now in
    let i = c.loop-left.i in
    let inside = ones_left bits i 1 (omega arith) (omega (arith, c.loop-left.invariant, c.loop-left-test.true, c.requires)) in
    omega (arith, c.loop-left.invariant, c.loop-left-test.true, bytes_more bits i (omega (arith, inside)), byte_most (slice_index_or bits i false))
