-- What stored places mean. No contract of a public function cites this file.
use Rattle.std.specs.Prelude.{List, Option, Some, map}
use Rattle.apl_grammar.specs.declared.program.Operation.{Operation}
use Rattle.apl_grammar.specs.declared.partial_program.PlaceStorage.{PlaceStorage}
use Rattle.apl_grammar.specs.declared.partial_program.PlaceStorage.TheVariants as storage

abbrev pub places_of : PlaceStorage → List (Option Operation)
places_of (storage.Dense operations) = map Some operations.items
places_of (storage.Sparse places) = places.items
