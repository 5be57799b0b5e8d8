use Rattle.std.proofs.Common.{arith}
use Rattle.apl_walk.proofs.Bits.{ones_left}
use Rattle.apl_walk.proofs.ones.write_turns.Goals as goal

pub write_few-done-requires-clause-within : goal.write_few-done-requires-clause-within
write_few-done-requires-clause-within g c =
    omega (arith, ones_left c.args.bits.now c.loop-room.i c.args.turn c.requires.some (omega (arith, c.loop-room.invariant.count, c.loop-room-test.true, c.requires.ones, c.loop-room.auto.room)))

pub overflow_add-i : goal.overflow_add-i
overflow_add-i g c =
    omega (arith, ones_left c.args.bits.now c.loop-room.i c.args.turn c.requires.some (omega (arith, c.loop-room.invariant.count, c.loop-room-test.true, c.requires.ones, c.loop-room.auto.room)))

pub loop-room-smaller : goal.loop-room-smaller
loop-room-smaller g c =
    omega (arith, ones_left c.args.bits.now c.loop-room.i c.args.turn c.requires.some (omega (arith, c.loop-room.invariant.count, c.loop-room-test.true, c.requires.ones, c.loop-room.auto.room)))
