use Rattle.std.proofs.Common.{◌≡◌, ◌*◌, ◌<◌, ◌≤◌, map, take, true}
use Rattle.std.specs.Prelude.{min, sum}
use Rattle.std.specs.List.{list_all}
use Rattle.apl_array.specs.Axes.{place_number}
use Rattle.apl_answer.specs.Arguments.{is_natural}
use Rattle.apl_struct.specs.declared.compressing.TheConstants.{PAST}
use Rattle.apl_struct.proofs.compressing.sum_of_counts.Given as goal

abbrev pub invariant-loop-i : goal.invariant-loop-i
invariant-loop-i g l = record {
  most : l.all ≤ l.i * PAST;
  natural : l.all < PAST → list_all is_natural (take l.i (map g.T.Numeric.number_in l.counts)) ≡ true;
  all : list_all is_natural (take l.i (map g.T.Numeric.number_in l.counts)) ≡ true → min l.all PAST ≡ min (sum (take l.i (map place_number (map g.T.Numeric.number_in l.counts)))) PAST;
}
