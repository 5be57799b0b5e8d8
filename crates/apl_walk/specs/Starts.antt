-- Where the lines of a walk begin. No contract of a public function cites this file.
use Rattle.std.specs.Prelude.{◌≡◌, ℕ, ◌*◌, ◌%◌, ◌≤◌, List, IfSome}
use Rattle.apl_walk.specs.declared.map.TheConstants.{MOST_STEP}
use Rattle.apl_walk.specs.declared.maps.Map.{Map}
use Rattle.apl_walk.specs.declared.maps.TheConstants.{MOST_MAPS}
use Rattle.apl_walk.specs.declared.starts.Start.{Start}
use Rattle.apl_walk.specs.Maps.{first_extent, walked_after}

-- the index on the first of the other axes at a line, and what those after it add
pub record IsStart (maps : List Map) (line : ℕ) (start : Start) : Type 0 where
  pub index : start.index ≡ line % first_extent maps
  pub others : start.others ≡ walked_after maps line
  pub most : IfSome start.others (λ n. n ≤ MOST_MAPS * MOST_STEP)
