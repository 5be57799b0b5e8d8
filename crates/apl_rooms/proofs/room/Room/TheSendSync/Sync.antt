use denote.RattleType.{RattleType}
use denote.Param.Send.{IsSend, IsSync, part_keyless}
use Rattle.apl_rooms.proofs.Crosses.{Room-send}
use Rattle.apl_rooms.specs.contracts.room.Room.{the_row}

pub sync : (R : RattleType) → IsSend R → IsSync (the_row R)
sync R s = record { shared = λ d b o κ q. part_keyless (the_row R) (Room-send R s) q d b o }
