use Rattle.std.proofs.Common.{◌≡◌, ◌+◌, Ok, map}
use Rattle.apl_array.specs.declared.array.Elem.TheVariants.{Int}
use Rattle.apl_reduce.specs.Folded.{folded_onto}
use Rattle.apl_reduce.specs.Items.{item_in}
use Rattle.apl_reduce.proofs.extreme_folds.extreme_onto.Given as goal

abbrev pub invariant-loop-k : goal.invariant-loop-k
invariant-loop-k g l = record {
  low : folded_onto g.E.Extreme.function (item_in (map Int (map g.T.Numeric.number_in l.numbers))) l.first l.k (Ok l.total) ≡ Ok l.low;
  high : folded_onto g.E.Extreme.function (item_in (map Int (map g.T.Numeric.number_in l.numbers))) (l.first + l.half) l.k (Ok l.total) ≡ Ok l.high;
}
