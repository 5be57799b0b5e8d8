use Rattle.std.proofs.Common.{◌-◌, ◌*◌, ◌<◌, length, slice_index_or, ap, ◌∙◌, arith, mul-le-mul_right}
use Rattle.std.proofs.lemmas.List.{get_or_read}
use Rattle.apl_walk.proofs.Bits.{ones_below}
use Rattle.apl_walk.proofs.expanded.Expanded.next_or.Goals as goal
use Rattle.apl_walk.proofs.expanded.Expanded.next_or.Given.{Over}
use Rattle.apl_walk.proofs.expanded.Expanded.next_or.Goals.{Then-self-index}

below : (g : Over) (c : Then-self-index g) → c.args.before < c.args.self.counted.count
below g c =
    let axis = c.args.self.counted in
    omega (arith, ones_below axis.bits.now c.args.index c.requires.within c.if-self-index.true, axis.all, c.requires.before)

near : (g : Over) (c : Then-self-index g) → c.args.before * c.args.self.stride < length c.args.line.now
near g c =
    let axis = c.args.self.counted in
    omega (arith, mul-le-mul_right {m = c.args.before} {n = axis.count - 1} c.args.self.stride (omega (arith, below g c)), c.requires.near)

pub bounds-line-before : goal.bounds-line-before
bounds-line-before g c = near g c

pub offset_bounds-line-before : goal.offset_bounds-line-before
offset_bounds-line-before g c = omega (arith, near g c)

pub overflow_mul-result : goal.overflow_mul-result
overflow_mul-result g c =
    let axis = c.args.self in
    omega (arith, mul-le-mul_right {m = c.args.before} {n = axis.counted.count} axis.stride (omega (arith, below g c)), axis.near)

pub returns-then-self-index : goal.returns-then-self-index
returns-then-self-index g c =
    let inside = near g (goal.at.returns-then-self-index g c).Then-self-index in
    rw c.if-self-index.true (get_or_read c.args.line.now (c.args.before * c.args.self.stride) c.index-line-before.result inside c.index-line-before.is c.args.fill
    ∙ ap (λ n. slice_index_or c.args.line.now (n * c.args.self.stride) c.args.fill) c.requires.before)
