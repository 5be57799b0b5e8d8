use Rattle.std.proofs.Common.{◌≡◌, ◌+◌, ◌*◌, ◌/◌, ◌%◌, ◌<◌, length, ap, ◌∙◌, arith}
use Rattle.apl_walk.specs.Ones.{ones_before}
use Rattle.apl_walk.proofs.counted.CountedBits.count_before.Goals as goal

pub bounds-self-block : goal.bounds-self-block
bounds-self-block c =
    let s = c.args.self in
    omega (arith, c.requires, s.blocks.all)

pub returns : goal.returns
returns c =
    let s = c.args.self in
    let i = c.args.index in
    let whole : i / 128 * 128 + i % 128 ≡ i = omega arith in
    let inside : i / 128 < length s.before.now = omega (arith, c.requires, s.blocks.all) in
    omega (arith, s.blocks.each (i / 128) inside, c.few_ones.ensures) ∙ ap (ones_before s.bits.now) whole
