use Rattle.std.proofs.Common.{◌≡◌, ◌+◌, ◌-◌, ◌*◌, ◌<◌, false, length, slice_index_or, ap, ◌∙◌, arith, mul-le-mul_right}
use Rattle.std.proofs.lemmas.List.{get_or_read}
use Rattle.apl_walk.specs.Ones.{ones_before}
use Rattle.apl_walk.proofs.Bits.{byte_most, bytes_more, next_written, ones_below, ones_few}
use Rattle.apl_walk.proofs.expanded.Expanded.read_next.Goals as goal

pub overflow_add-ones-in-loop-k : goal.overflow_add-ones-in-loop-k
overflow_add-ones-in-loop-k g c =
    let axis = c.args.self.counted in
    let bits = axis.bits.now in
    let i = c.args.first + c.loop-k.k in
    omega (arith, c.loop-k.invariant.ones, ones_few bits i, byte_most (slice_index_or bits i false), axis.most, c.requires.within, c.loop-k-test.true)

pub loop-k-preserved : goal.loop-k-preserved
loop-k-preserved g c =
    let axis = c.args.self.counted in
    let bits = axis.bits.now in
    let line = c.args.line.now in
    let stride = c.args.self.stride in
    let k = c.loop-k.k in
    let i = c.args.first + k in
    let kept = c.loop-k.invariant in
    let x = c.index-line-nearest.result in
    let inside : i < length bits = omega (arith, c.loop-k-test.true, c.requires.within) in
    let near : c.nearest.result * stride < length line = omega (arith, mul-le-mul_right {m = c.nearest.result} {n = axis.count - 1} stride c.nearest.ensures.most, c.requires.near) in
    let next : i + 1 ≡ c.args.first + (k + 1) = omega arith in
    record {
      read = next_written bits line c.loop-k.group stride c.args.first k x (omega (arith, c.loop-k-test.true, c.loop-k.auto.group))
          (λ one d.
          let own : c.nearest.result ≡ ones_before bits i = c.nearest.ensures.same (omega (arith, ones_below bits i inside one, axis.all, kept.ones)) ∙ kept.ones in
          get_or_read line (c.nearest.result * stride) x near c.index-line-nearest.is d ∙ ap (λ n. slice_index_or line (n * stride) d) own)
          kept.read;
      ones = omega (arith, kept.ones, bytes_more bits i inside) ∙ ap (ones_before bits) next;
    }
