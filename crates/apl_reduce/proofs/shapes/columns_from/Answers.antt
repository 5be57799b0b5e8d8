use Rattle.std.proofs.Common.{◌+◌, ◌-◌, ◌<◌, arith}
use Rattle.apl_array.specs.Shape.{count_of}
use Rattle.apl_reduce.proofs.InnerPlaces.{end_count}
use Rattle.apl_reduce.proofs.shapes.columns_from.Goals as goal

pub returns-else-k-eq0-clause-some : goal.returns-else-k-eq0-clause-some
returns-else-k-eq0-clause-some c =
    let some : 0 < count_of c.args.shape.now = omega (arith, c.count-count.ensures.count) in
    omega (arith, c.inner.ensures.inner, (end_count c.joined_index_has_place.ensures.count (c.args.k - 1 + 1) c.args.shape.now some).0)

pub returns-else-k-eq0-clause-most : goal.returns-else-k-eq0-clause-most
returns-else-k-eq0-clause-most c =
    let some : 0 < count_of c.args.shape.now = omega (arith, c.count-count.ensures.count) in
    omega (arith, c.inner.ensures.inner, (end_count c.joined_index_has_place.ensures.count (c.args.k - 1 + 1) c.args.shape.now some).1, c.inner.ensures.lawful.count)
