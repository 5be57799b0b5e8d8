use Rattle.std.proofs.Common.{◌+◌, ◌*◌, ◌/◌, ◌%◌, ◌<◌, rules, arith}
use Rattle.std.proofs.Math.Nat.{mod-lt, div-lt_iff_lt-mul}
use Rattle.apl_reduce.proofs.stretch_sums.StretchesKernel.at.Goals as goal

pub overflow_add-first : goal.overflow_add-first
overflow_add-first g c =
    let s = c.args.self.now in
    let place = c.args.place in
    let row = place / s.stretches in
    let k = place % s.stretches in
    let some : 0 < s.stretches = omega (arith, s.all, s.two) in
    let inside : k < s.stretches = mod-lt place some in
    let below : row < s.rows = (div-lt_iff_lt-mul {k = s.stretches} {x = place} {y = s.rows} some).1 c.requires in
    let most : row * s.block + k * 16384 < 18446744073709551616 = omega (arith, s.within row below, s.needed, inside, s.numbers_most) in
    search (rules, most)
