use Rattle.std.proofs.Common.{◌<◌, sym, ap, ◌∙◌, arith, length}
use Rattle.apl_walk.specs.Ones.{one_of, one_index}
use Rattle.apl_walk.proofs.Bits.{ones_more, ones_left, index_there}
use Rattle.apl_walk.proofs.counted.next_one.Goals as goal

pub bounds-bits-i : goal.bounds-bits-i
bounds-bits-i c = omega (arith, ones_left c.args.bits.now c.loop-i.i 1 (omega arith) (omega (arith, c.loop-i.invariant, c.requires)))

pub overflow_add-i : goal.overflow_add-i
overflow_add-i c = omega (arith, ones_left c.args.bits.now c.loop-i.i 1 (omega arith) (omega (arith, c.loop-i.invariant, c.requires)))

pub loop-i-smaller : goal.loop-i-smaller
loop-i-smaller c = omega (arith, ones_left c.args.bits.now c.loop-i.i 1 (omega arith) (omega (arith, c.loop-i.invariant, c.requires)))

pub loop-i-preserved : goal.loop-i-preserved
loop-i-preserved c =
    let bits = c.args.bits.now in
    let inside : c.loop-i.i < length bits = omega (arith, ones_left bits c.loop-i.i 1 (omega arith) (omega (arith, c.loop-i.invariant, c.requires))) in
    omega (arith, ones_more bits c.loop-i.i inside, ap one_of c.loop-i-test.true, c.loop-i.invariant)

pub returns-clause-index : goal.returns-clause-index
returns-clause-index c =
    let bits = c.args.bits.now in
    let inside : c.loop-i.i < length bits = omega (arith, ones_left bits c.loop-i.i 1 (omega arith) (omega (arith, c.loop-i.invariant, c.requires))) in
    sym (index_there bits c.loop-i.i inside c.loop-i-test.false) ∙ ap (one_index bits) c.loop-i.invariant
