use Rattle.std.proofs.Common.{rules}
use Rattle.apl_board.proofs.FoundPlaces.{looked_view, looked_places}
use Rattle.apl_board.proofs.LeastPlaces.{looks}
use Rattle.apl_board.proofs.board.Board.least.Goals as goal

pub load-found-requires : goal.load-found-requires
load-found-requires c = (search rules, search rules, looks _ _ _ _ (search rules))

pub returns-clause-view : goal.returns-clause-view
returns-clause-view c = let told = c.load-found.ensures.2 in looked_view _ _ _ _ c.place_of.ensures told.3 (λ h. (told.4 h).0)

pub returns-clause-reported : goal.returns-clause-reported
returns-clause-reported c = let told = c.load-found.ensures.2 in looked_places _ _ _ c.place_of.ensures (λ h. (told.4 h).1) told.1

pub returns-clause-seen : goal.returns-clause-seen
returns-clause-seen c = let told = c.load-found.ensures.2 in looked_places _ _ _ c.place_of.ensures (λ h. (told.4 h).1) told.2
