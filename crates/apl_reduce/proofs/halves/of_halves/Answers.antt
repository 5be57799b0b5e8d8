use Rattle.std.proofs.Common.{◌≡◌, ◌+◌, refl, subst, arith, map}
use Rattle.apl_reduce.proofs.halves.of_halves.Goals as goal

pub loop-k-init : goal.loop-k-init
loop-k-init g c = record {
  low = c.none-low.ensures (map g.T.Numeric.number_in c.args.numbers.now) c.args.first;
  high = c.none-high.ensures (map g.T.Numeric.number_in c.args.numbers.now) (c.args.first + c.args.half);
}

pub loop-k-preserved : goal.loop-k-preserved
loop-k-preserved g c = record {
  low = c.with_next-low.ensures c.args.first c.loop-k.k refl c.loop-k.invariant.low;
  high = c.with_next-high.ensures (c.args.first + c.args.half) c.loop-k.k refl c.loop-k.invariant.high;
}

pub returns : goal.returns
returns g c =
    let numbers = map g.T.Numeric.number_in c.args.numbers.now in
    let first = c.args.first in
    let half = c.args.half in
    let done : c.loop-k.k ≡ half = omega (arith, c.loop-k-test.false, c.loop-k.auto.k-end) in
    let low = subst (λ n. g.K.KnownRun.is_of c.loop-k.low numbers first n) done c.loop-k.invariant.low in
    let high = subst (λ n. g.K.KnownRun.is_of c.loop-k.high numbers (first + half) n) done c.loop-k.invariant.high in
    c.joined.ensures numbers first half low high
