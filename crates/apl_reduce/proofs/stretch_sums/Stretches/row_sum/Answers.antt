use Rattle.std.proofs.Common.{◌*◌, ◌+◌, ◌<◌, map, pos, slice_index_or, FitsSigned, w64, rules}
use Rattle.apl_reduce.proofs.StretchSums.{inside_rows, stretch_of_row, next_stretch}
use Rattle.apl_reduce.proofs.stretch_sums.Stretches.row_sum.Goals as goal

pub loop-k-preserved : goal.loop-k-preserved
loop-k-preserved g c =
    let s = c.args.self.now in
    let numbers = map g.T.Numeric.number_in s.numbers.now in
    let row = c.args.row in
    let k = c.loop-k.k in
    let place = row * s.stretches + k in
    let inside : place < s.rows * s.stretches = inside_rows row s.rows s.stretches k c.requires.row c.loop-k-test.true in
    let sum = slice_index_or c.args.sums.now place (pos 0) in
    let fits_sum : FitsSigned w64 sum = search rules in
    let own = stretch_of_row numbers s.near s.near_most s.items s.block s.stretches row k sum c.loop-k-test.true (c.requires.sums.each place (pos 0) inside) in
    next_stretch numbers s.near s.items s.stretches (row * s.block) k s.needed c.loop-k-test.true _ sum c.wrapped_sum-total.result fits_sum s.small c.wrapped_sum-total.ensures c.loop-k.invariant own
