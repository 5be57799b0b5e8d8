use Rattle.std.proofs.Common.{rules}
use Rattle.apl_rooms.proofs.Keeps.{takes_one}
use Rattle.apl_rooms.proofs.rooms.Rooms.take.Goals as goal

pub compare_exchange-found-requires : goal.compare_exchange-found-requires
compare_exchange-found-requires g c = (search rules, search rules, takes_one _ _ _ _ _ _ _ (search rules) (search rules))
