-- The width of printed lines, in characters.
use Rattle.std.specs.Prelude.{ℕ}

-- the least width that lines may have
abbrev pub least_width : ℕ
least_width = 30

-- the greatest width that lines may have
abbrev pub most_width : ℕ
most_width = 130
