use Rattle.std.proofs.Common.{rules}
use Rattle.apl_rooms.proofs.Keeps.{joins_two}
use Rattle.apl_rooms.proofs.rooms.Rooms.join.Goals as goal

pub join_seat-requires : goal.join_seat-requires
join_seat-requires g c = (search rules, search rules, search rules, search rules, joins_two _ _ _ _ _ _ _ (search rules))
