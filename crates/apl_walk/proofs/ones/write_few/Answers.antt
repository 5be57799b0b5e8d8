use Rattle.std.proofs.Common.{◌≡◌, ◌+◌, ◌-◌, ◌*◌, ◌<◌, length, slice_index_or, slice_set, false, subst, ap, arith, mul-le-mul_right}
use Rattle.std.proofs.lemmas.List.{get_or_read}
use Rattle.apl_walk.specs.Ones.{ones_before, HasOnes}
use Rattle.apl_walk.proofs.Bits.{bytes_more, byte_most, one_written}
use Rattle.apl_walk.proofs.ones.write_few.Goals as goal
use mir.Val.{bool_byte}

pub bounds-line-first : goal.bounds-line-first
bounds-line-first g c =
    omega (arith, mul-le-mul_right {m = c.args.first + c.loop-k.k} {n = length c.args.bits.now - 1} c.args.stride (omega (arith, c.loop-k-test.true, c.requires.within)), c.requires.near)

pub loop-k-init : goal.loop-k-init
loop-k-init g c =
    let same : c.args.first ≡ c.args.first + 0 = omega arith in
    record {
      written = subst (λ n. HasOnes c.args.bits.now c.args.line.now c.args.stride n c.args.done c.args.room.now) same c.requires.before;
      count = ap (λ n. c.args.done + ones_before c.args.bits.now n) same;
      most = omega arith;
    }

pub loop-k-preserved : goal.loop-k-preserved
loop-k-preserved g c =
    let bits = c.args.bits.now in
    let line = c.args.line.now in
    let i = c.args.first + c.loop-k.k in
    let kept = c.loop-k.invariant in
    let inside : i < length bits = omega (arith, c.loop-k-test.true, c.requires.within) in
    let near : i * c.args.stride < length line = omega (arith, mul-le-mul_right {m = i} {n = length bits - 1} c.args.stride (omega (arith, inside)), c.requires.near) in
    let x = c.index-line-first.result in
    let few = byte_most (slice_index_or bits i false) in
    let next : i + 1 ≡ c.args.first + (c.loop-k.k + 1) = omega arith in
    let written = one_written bits line c.loop-k.room c.args.stride i c.loop-k.written x inside (omega (arith, kept.most, c.loop-k-test.true, c.requires.room))
    (get_or_read line (i * c.args.stride) x near c.index-line-first.is) kept.written in
    let count : c.loop-k.written + bool_byte (slice_index_or bits i false) + ones_before bits c.args.first ≡ c.args.done + ones_before bits (i + 1) = omega (arith, kept.count, bytes_more bits i inside) in
    record {
      written = subst (λ n. HasOnes bits line c.args.stride n (c.loop-k.written + bool_byte (slice_index_or bits i false)) (slice_set c.loop-k.room c.loop-k.written x)) next written;
      count = subst (λ n. c.loop-k.written + bool_byte (slice_index_or bits i false) + ones_before bits c.args.first ≡ c.args.done + ones_before bits n) next count;
      most = omega (arith, kept.most, few);
    }
