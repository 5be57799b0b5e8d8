-- Lines that are made of two arguments.
use Rattle.std.specs.Prelude.{ℕ, ◌+◌, ◌-◌, ◌*◌, List, nat_lt, if◌then◌else◌, slice_index_or}

-- index i of a line: each has the next `left` of some values, then the next `right` of others. Past the last ones are x and y
abbrev pub joined_value : {T : Type 0} (xs ys : List T) (x y : T) (left right line i : ℕ) → T
joined_value xs ys x y left right line i =
    if nat_lt i left then slice_index_or xs (line * left + i) x else slice_index_or ys (line * right + (i - left)) y
