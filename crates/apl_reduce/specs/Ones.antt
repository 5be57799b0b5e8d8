-- How many truth values are true. No contract of a public function cites this file.
use Rattle.std.specs.Prelude.{ℕ, zero, suc, ◌+◌, Bool, false, List, slice_index_or}
use Rattle.apl_walk.specs.Ones.{one_of}

-- how many of `count` neighbours from a place on are true
unfoldable pub ones : List Bool → (first count : ℕ) → ℕ
ones truths first zero = 0
ones truths first (suc n) = ones truths first n + one_of (slice_index_or truths (first + n) false)
