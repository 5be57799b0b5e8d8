use Rattle.std.proofs.Common.{rules, Some}
use Rattle.apl_rooms.proofs.Keeps.{lays_one}
use Rattle.apl_rooms.proofs.rooms.Rooms.lay.Goals as goal

pub store-requires : goal.store-requires
store-requires g c = (search rules, search rules, lays_one _ _ _ _ _ _ _ _ c.args.seat.now.me.0 c.requires.same.0 (Some c.args.room) (search rules) (search rules) (search rules) (search rules) (search rules) (search rules) (search rules) (search rules) (search rules))
