use Rattle.std.proofs.Common.{◌≡◌, ◌<◌, subst, arith, map}
use Rattle.apl_reduce.specs.FourFolds.{ArePairSums}
use Rattle.apl_reduce.proofs.near_sums.pair_sums.Goals as goal

pub loop-k-init : goal.loop-k-init
loop-k-init g c = record {
  first = c.none-one.ensures (map g.T.Numeric.number_in c.args.numbers.now) _;
  second = c.none-two.ensures (map g.T.Numeric.number_in c.args.numbers.now) _;
  third = c.none-three.ensures (map g.T.Numeric.number_in c.args.numbers.now) _;
  fourth = c.none-four.ensures (map g.T.Numeric.number_in c.args.numbers.now) _;
}

pub loop-k-preserved : goal.loop-k-preserved
loop-k-preserved g c =
    let few : c.loop-k.k < 32768 = omega (arith, c.requires.few, c.loop-k-test.true) in
    record {
      first = c.with_pair-one.ensures few c.loop-k.invariant.first;
      second = c.with_pair-two.ensures few c.loop-k.invariant.second;
      third = c.with_pair-three.ensures few c.loop-k.invariant.third;
      fourth = c.with_pair-four.ensures few c.loop-k.invariant.fourth;
    }

pub returns-clause-first : goal.returns-clause-first
returns-clause-first g c =
    let all : c.loop-k.k ≡ c.args.pairs = omega (arith, c.loop-k-test.false, c.loop-k.auto.k-end) in
    subst (λ k. ArePairSums (map g.T.Numeric.number_in c.args.numbers.now) c.args.starts.first k c.loop-k.one) all c.loop-k.invariant.first

pub returns-clause-second : goal.returns-clause-second
returns-clause-second g c =
    let all : c.loop-k.k ≡ c.args.pairs = omega (arith, c.loop-k-test.false, c.loop-k.auto.k-end) in
    subst (λ k. ArePairSums (map g.T.Numeric.number_in c.args.numbers.now) c.args.starts.second k c.loop-k.two) all c.loop-k.invariant.second

pub returns-clause-third : goal.returns-clause-third
returns-clause-third g c =
    let all : c.loop-k.k ≡ c.args.pairs = omega (arith, c.loop-k-test.false, c.loop-k.auto.k-end) in
    subst (λ k. ArePairSums (map g.T.Numeric.number_in c.args.numbers.now) c.args.starts.third k c.loop-k.three) all c.loop-k.invariant.third

pub returns-clause-fourth : goal.returns-clause-fourth
returns-clause-fourth g c =
    let all : c.loop-k.k ≡ c.args.pairs = omega (arith, c.loop-k-test.false, c.loop-k.auto.k-end) in
    subst (λ k. ArePairSums (map g.T.Numeric.number_in c.args.numbers.now) c.args.starts.fourth k c.loop-k.four) all c.loop-k.invariant.fourth
