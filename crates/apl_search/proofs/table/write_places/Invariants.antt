use Rattle.std.proofs.Common.{◌≡◌, ◌*◌, length, map}
use Rattle.apl_search.specs.Tables.{ArePlacesFrom}
use Rattle.apl_search.proofs.table.write_places.Given as goal

abbrev pub invariant-loop-turn : goal.invariant-loop-turn
invariant-loop-turn g l = record {
  len : length l.places ≡ length l.fn.places;
  from : ArePlacesFrom (map g.T.Keyed.key l.values) l.least (l.turn * 4) l.places;
}
