use Rattle.std.proofs.Common.{◌≡◌, ◌+◌, ◌*◌, subst, arith}
use Rattle.apl_reduce.specs.Magnitudes.{IsSum}
use Rattle.apl_reduce.proofs.near_sums.PairSums.both.Goals as goal

pub returns : goal.returns
returns c = λ numbers first pairs few low high.
    let next : first + 2 * pairs ≡ first + pairs * 2 = omega arith in
    let after : first + 2 * pairs + 1 ≡ first + 1 + pairs * 2 = omega arith in
    let firsts = subst (λ i. IsSum numbers i 2 pairs c.args.next.now.firsts) next high.firsts in
    let seconds = subst (λ i. IsSum numbers i 2 pairs c.args.next.now.seconds) after high.seconds in
    record {
      firsts = c.joined.ensures numbers first 2 pairs (omega (arith, few)) low.firsts firsts;
      seconds = c.joined-2.ensures numbers (first + 1) 2 pairs (omega (arith, few)) low.seconds seconds;
    }
