-- The axes of a result.
use Rattle.std.specs.Prelude.{ℕ, ◌*◌, ◌/◌, ◌%◌, ◌-◌, ◌+◌, List, [], ◌∷◌, length, Option, Some}
use Rattle.apl_walk.specs.declared.window.Window.{Window as WindowMap}
use Rattle.apl_walk.specs.declared.maps.Map.{Map}
use Rattle.apl_walk.specs.declared.maps.Map.TheVariants.{Window, Reversed, Rotated, Listed, Indexed, Repeated, Ones, Expanded}
use Rattle.apl_walk.specs.Steps.{and_step, window_step, reversed_step, rotated_step, indexed_step, repeated_step}
use Rattle.apl_walk.specs.Listed.{listed_extent, listed_reach, step_listed}
use Rattle.apl_walk.specs.Ones.{one_step, next_step}

-- the step of a window
abbrev pub step_of : WindowMap → ℕ → Option ℕ
step_of w i = window_step w.from w.to w.start w.stride i

-- how many indexes an axis has
abbrev pub map_extent : Map → ℕ
map_extent (Window w) = w.extent
map_extent (Reversed r) = r.extent
map_extent (Rotated r) = r.extent
map_extent (Listed l) = listed_extent l
map_extent (Indexed l) = length l.indexes.now
map_extent (Repeated r) = r.axis_length * r.times
map_extent (Ones o) = o.counted.count
map_extent (Expanded e) = length e.counted.bits.now

-- the most that an index adds
abbrev pub map_reach : Map → ℕ
map_reach (Window w) = (w.to + w.start - (w.from + 1)) * w.stride
map_reach (Reversed r) = (r.extent - 1) * r.stride
map_reach (Rotated r) = (r.extent - 1) * r.stride
map_reach (Listed l) = listed_reach l
map_reach (Indexed l) = (l.axis_length - 1) * l.stride
map_reach (Repeated r) = (r.axis_length - 1) * r.stride
map_reach (Ones o) = (length o.counted.bits.now - 1) * o.stride
map_reach (Expanded e) = (e.counted.count - 1) * e.stride

-- what an index adds to the place in the argument, or none, which is the fill
abbrev pub map_step : Map → ℕ → Option ℕ
map_step (Window w) i = window_step w.from w.to w.start w.stride i
map_step (Reversed r) i = reversed_step r.extent r.stride i
map_step (Rotated r) i = rotated_step r.extent r.by r.stride i
map_step (Listed l) i = step_listed l i
map_step (Indexed l) i = indexed_step l.stride l.indexes.now i
map_step (Repeated r) i = repeated_step r.times r.stride i
map_step (Ones o) i = one_step o.counted.bits.now o.stride i
map_step (Expanded e) i = next_step e.counted.bits.now e.stride i

-- how many index lists all the axes have
abbrev pub extent_of : List Map → ℕ
extent_of [] = 1
extent_of (m ∷ ms) = map_extent m * extent_of ms

-- what the index list at a place adds, the last axis first
abbrev pub walked : List Map → ℕ → Option ℕ
walked [] place = Some 0
walked (m ∷ ms) place = and_step (map_step m (place % map_extent m)) (walked ms (place / map_extent m))

-- how many indexes the first axis has
abbrev pub first_extent : List Map → ℕ
first_extent [] = 1
first_extent (m ∷ ms) = map_extent m

-- what the index list at a place adds along the axes after the first one
abbrev pub walked_after : List Map → ℕ → Option ℕ
walked_after [] place = Some 0
walked_after (m ∷ ms) place = walked ms (place / map_extent m)

-- the same with one more axis before the others
abbrev pub walked_with : List Map → Map → ℕ → Option ℕ
walked_with maps m place = and_step (walked maps place) (map_step m (place / extent_of maps % map_extent m))

-- what the index list at a place adds along two windows
abbrev pub windows_step : (outer inner : WindowMap) → ℕ → Option ℕ
windows_step outer inner place = and_step (step_of inner (place % inner.extent)) (step_of outer (place / inner.extent % outer.extent))

-- the same of two maps
abbrev pub maps_step : (outer inner : Map) → ℕ → Option ℕ
maps_step outer inner place = and_step (map_step inner (place % map_extent inner)) (map_step outer (place / map_extent inner % map_extent outer))
