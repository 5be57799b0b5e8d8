use Rattle.std.proofs.Common.{◌+◌, map}
use Rattle.apl_reduce.proofs.halves.of_halves.Given as goal

abbrev pub invariant-loop-k : goal.invariant-loop-k
invariant-loop-k g l = record {
  low : g.K.KnownRun.is_of l.low (map g.T.Numeric.number_in l.numbers) l.first l.k;
  high : g.K.KnownRun.is_of l.high (map g.T.Numeric.number_in l.numbers) (l.first + l.half) l.k;
}
