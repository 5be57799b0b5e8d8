use Rattle.std.proofs.Common.{◌≡◌, Ok, map}
use Rattle.apl_array.specs.declared.array.Elem.TheVariants.{Int}
use Rattle.apl_reduce.specs.Folded.{folded_onto}
use Rattle.apl_reduce.specs.Items.{item_in}
use Rattle.apl_reduce.proofs.extreme_folds.each_extreme.Given as goal

abbrev pub invariant-loop-k : goal.invariant-loop-k
invariant-loop-k g l = record {
  first : folded_onto g.E.Extreme.function (item_in (map Int (map g.T.Numeric.number_in l.numbers))) l.starts.first l.k (Ok l.fn.totals.first) ≡ Ok l.one;
  second : folded_onto g.E.Extreme.function (item_in (map Int (map g.T.Numeric.number_in l.numbers))) l.starts.second l.k (Ok l.fn.totals.second) ≡ Ok l.two;
  third : folded_onto g.E.Extreme.function (item_in (map Int (map g.T.Numeric.number_in l.numbers))) l.starts.third l.k (Ok l.fn.totals.third) ≡ Ok l.three;
  fourth : folded_onto g.E.Extreme.function (item_in (map Int (map g.T.Numeric.number_in l.numbers))) l.starts.fourth l.k (Ok l.fn.totals.fourth) ≡ Ok l.four;
}
