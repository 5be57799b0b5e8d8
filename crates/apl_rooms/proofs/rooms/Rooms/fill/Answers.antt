use Rattle.std.proofs.Common.{rules}
use Rattle.apl_rooms.proofs.Lengths.{room_len}
use Rattle.apl_rooms.proofs.rooms.Rooms.fill.Goals as goal

pub write-written-requires-clause-room : goal.write-written-requires-clause-room
write-written-requires-clause-room g c =
    let told = c.in-Some.ensures.none in
    room_len _ _ _ _ _ _ c.requires.rooms c.args.number _ told.1.0 c.in-Some.room (search rules) (search rules) told.1.2 (search rules)
