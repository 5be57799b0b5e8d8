use Rattle.std.proofs.Common.{◌≡◌, ◌-◌, length, map}
use Rattle.apl_search.specs.Tables.{ArePlacesFrom}
use Rattle.apl_search.proofs.table.write_places_before.Given as goal

abbrev pub invariant-loop-k : goal.invariant-loop-k
invariant-loop-k g l = record {
  len : length l.places ≡ length l.fn.places;
  from : ArePlacesFrom (map g.T.Keyed.key l.values) l.least (l.end - l.k) l.places;
}
