use Rattle.std.proofs.Common.{rules}
use Rattle.apl_rooms.proofs.Keeps.{splits_one}
use Rattle.apl_rooms.proofs.rooms.Rooms.split.Goals as goal

pub split_seat-part-requires : goal.split_seat-part-requires
split_seat-part-requires g c = (search rules, search rules, splits_one _ _ _ _ _ (search rules))
