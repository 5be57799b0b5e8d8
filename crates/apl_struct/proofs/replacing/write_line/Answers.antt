use Rattle.std.proofs.Common.{ℕ, ◌<◌, length, subst}
use Rattle.std.specs.Prelude.{Some}
use Rattle.apl_walk.specs.declared.listed.Listed.{Listed}
use Rattle.apl_walk.specs.declared.maps.Map.{Map}
use Rattle.apl_walk.specs.Steps.{and_step}
use Rattle.apl_walk.specs.Listed.{listed_extent, step_listed}
use Rattle.apl_walk.specs.Maps.{map_extent, map_step}
use Rattle.apl_struct.specs.Numbering.{IsReached}
use Rattle.apl_struct.proofs.replacing.write_line.Goals as goal

pub write_along-requires-clause-within : goal.write_along-requires-clause-within
write_along-requires-clause-within g c =
    let list = subst (λ (m : Map). (i : ℕ) → i < map_extent m → IsReached (length c.args.room.now) (and_step (map_step m i) (Some c.args.base))) c.in-Listed.is c.requires.within in
    subst (λ (l : Listed). (i : ℕ) → i < listed_extent l → IsReached (length c.args.room.now) (and_step (step_listed l i) (Some c.args.base))) c.in-Numbers.is list

pub write_along-requires-in-Narrow-clause-within : goal.write_along-requires-in-Narrow-clause-within
write_along-requires-in-Narrow-clause-within g c =
    let list = subst (λ (m : Map). (i : ℕ) → i < map_extent m → IsReached (length c.args.room.now) (and_step (map_step m i) (Some c.args.base))) c.in-Listed.is c.requires.within in
    subst (λ (l : Listed). (i : ℕ) → i < listed_extent l → IsReached (length c.args.room.now) (and_step (step_listed l i) (Some c.args.base))) c.in-Narrow.is list

pub write_along-requires-in-Window-clause-within : goal.write_along-requires-in-Window-clause-within
write_along-requires-in-Window-clause-within g c =
    subst (λ (m : Map). (i : ℕ) → i < map_extent m → IsReached (length c.args.room.now) (and_step (map_step m i) (Some c.args.base))) c.in-Window.is c.requires.within
