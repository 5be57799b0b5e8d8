-- Axes whose indexes are numbers of a list, held in 64 bits or in 32.
use Rattle.std.specs.Prelude.{ℕ, ◌*◌, ◌-◌, length, map, Option}
use Rattle.apl_walk.specs.declared.listed.Listed.{Listed}
use Rattle.apl_walk.specs.declared.listed.Listed.TheVariants.{Numbers, Narrow}
use Rattle.apl_walk.specs.Steps.{listed_step}

-- how many indexes the axis has
abbrev pub listed_extent : Listed → ℕ
listed_extent (Numbers l) = length l.numbers.now
listed_extent (Narrow l) = length l.numbers.now

-- the most that an index adds
abbrev pub listed_reach : Listed → ℕ
listed_reach (Numbers l) = (l.axis_length - 1) * l.stride
listed_reach (Narrow l) = (l.axis_length - 1) * l.stride

-- what an index adds: each element of the list is a number
abbrev pub step_listed : Listed → ℕ → Option ℕ
step_listed (Numbers l) i = listed_step l.first l.stride (map (λ number. number) l.numbers.now) i
step_listed (Narrow l) i = listed_step l.first l.stride (map (λ number. number) l.numbers.now) i
