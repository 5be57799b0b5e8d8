use denote.RattleType.{RattleType}
use denote.Param.Send.{IsSend}
use Rattle.apl_rooms.proofs.Crosses.{Room-send}
use Rattle.apl_rooms.specs.contracts.room.Room.{the_row}

pub send : (R : RattleType) → IsSend R → IsSend (the_row R)
send = Room-send
