use Rattle.std.proofs.Common.{◌≡◌, ◌+◌, ap, ◌∙◌, arith, slice_index_or, false}
use Rattle.apl_walk.specs.Ones.{ones_before}
use Rattle.apl_walk.proofs.Bits.{ones_more, one_most}
use Rattle.apl_walk.proofs.counted.few_ones.Goals as goal

pub loop-k-preserved : goal.loop-k-preserved
loop-k-preserved c =
    let bits = c.args.bits.now in
    let i = c.args.first + c.loop-k.k in
    let next : i + 1 ≡ c.args.first + (c.loop-k.k + 1) = omega arith in
    let here = ones_more bits i (omega (arith, c.loop-k-test.true, c.requires.within)) in
    record {
      sum = omega (arith, c.loop-k.invariant.sum, c.one-sum.ensures, here) ∙ ap (ones_before bits) next;
      few = omega (arith, c.loop-k.invariant.few, c.one-sum.ensures, one_most (slice_index_or bits i false));
    }
