-- Indexes counted round. No contract of a public function cites this file.
use Rattle.std.specs.Prelude.{ℕ, ℤ, pos, zero, suc, nat_abs, ◌+◌, ◌*◌, List, slice_index, slice_index_or, remove}
use Rattle.std.specs.Int.{int_rem_euclid}
use Rattle.apl_array.specs.Shape.{place_of}
use Rattle.apl_struct.specs.Gathering.{along_axis}
use Rattle.apl_struct.specs.Rearranging.{rotated_index}
use Rattle.apl_struct.specs.Along.{line_index, line_number, line_place}
use Rattle.apl_walk.specs.Steps.{wrapped}

-- by how many indexes, counted from 0, an axis of length n is rotated by z
abbrev pub rotation_of : (n : ℕ) → (z : ℤ) → ℕ
rotation_of zero z = 0
rotation_of (suc m) z = nat_abs (int_rem_euclid z (pos (suc m)))

-- the place on a place's line that its rotation takes there. An axis has n indexes, and neighbours along it are `inner` apart
abbrev pub turned_place : (n inner : ℕ) (by : List ℕ) (place : ℕ) → ℕ
turned_place n inner by place = line_place n inner (n * inner) place (wrapped n (line_index n inner place + slice_index by (line_number n inner place)))

-- the number by which the line along axis k that goes through an index list is rotated
abbrev pub line_rotation : List ℤ → List ℕ → ℕ → List ℕ → ℤ
line_rotation rotations shape k index = slice_index_or rotations (place_of (remove shape k) (remove index k)) (pos 0)

-- the index list in the argument if each line along axis k is rotated by its number
abbrev pub rotated_source : List ℤ → List ℕ → ℕ → List ℕ → List ℕ
rotated_source rotations shape k index = along_axis k (rotated_index (line_rotation rotations shape k index) (slice_index shape k)) index
