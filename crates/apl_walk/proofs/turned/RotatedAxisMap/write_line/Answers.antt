use Rattle.std.proofs.Common.{◌+◌, ◌-◌, ◌≤◌, arith, ◌∙◌, mul-le-mul_right}
use Rattle.apl_walk.proofs.Lines.{part_before, part_at}
use Rattle.apl_walk.proofs.Stepped.{values_rotated}
use Rattle.apl_walk.proofs.turned.RotatedAxisMap.write_line.Goals as goal

pub write_stretch-requires-clause-near : goal.write_stretch-requires-clause-near
write_stretch-requires-clause-near g c =
    let r = c.args.self.now in
    let less : c.counted_round-start.result + (c.min-first.result - 1) ≤ r.extent - 1 = omega (arith, c.counted_round-start.ensures.below, c.min-first.ensures) in
    omega (arith, mul-le-mul_right r.stride less, c.requires.near)

pub write_stretch-requires-2-clause-near : goal.write_stretch-requires-2-clause-near
write_stretch-requires-2-clause-near g c =
    let r = c.args.self.now in
    let less : c.args.count - c.min-first.result - 1 ≤ r.extent - 1 = omega (arith, c.requires.within) in
    omega (arith, mul-le-mul_right r.stride less, c.requires.near)

pub returns-clause-values : goal.returns-clause-values
returns-clause-values g c =
    let r = c.args.self.now in
    let first = c.min-first.result in
    values_rotated c.args.line.now _ c.args._fill r.extent r.by r.stride c.args.from c.args.count c.counted_round-start.result c.min-first.result c.requires.within r.below
    c.requires.near c.counted_round-start.ensures.value c.min-first.ensures
    (λ k d inside. part_before c.write_stretch.new.room c.write_stretch-2.new.room first _ k d inside (omega arith) (omega arith) ∙ c.write_stretch.ensures.each k d inside)
    (λ k d inside. part_at c.write_stretch.new.room c.write_stretch-2.new.room first _ k d (omega arith) (omega arith) (omega arith) ∙ c.write_stretch-2.ensures.each k d inside)
