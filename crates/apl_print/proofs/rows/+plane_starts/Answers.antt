use Rattle.std.proofs.Common.{◌<◌, ◌-◌, length, take, drop, arith, length-take, subst}
use Rattle.apl_print.proofs.TableLemmas.{rest_count}
use Rattle.apl_print.proofs.rows.+plane_starts.Goals as goal

pub plane_starts-requires : goal.plane_starts-requires
plane_starts-requires t c =
    let some : 0 < length c.args.lengths.now = omega (arith, c.in-len1-up.len_at_least) in
    let rest = rest_count c.args.lengths.now some c.requires.some in
    let shorter : length (take (length c.args.lengths.now - 1) (drop 1 c.args.lengths.now)) < length c.args.lengths.now =
    omega (arith, length-take (length c.args.lengths.now - 1) (drop 1 c.args.lengths.now)) in
    (subst (λ m. length (take (length c.args.lengths.now - 1) (drop 1 c.args.lengths.now)) < m) c.decreases shorter, (rest.0, omega (arith, rest.1)))
