-- +\B of numbers, in exact numbers.
use Rattle.std.specs.Prelude.{◌≡◌, ℕ, ◌+◌, ℤ, List, map, take, drop, slice_index, slice_set, IsTrue, Result, false}
use Rattle.std.specs.List.{range_with_len}
use Rattle.apl_array.specs.declared.axis.Axis.{Axis}
use Rattle.apl_array.specs.declared.function.ScalarFunction.TheVariants.{Plus}
use Rattle.apl_array.specs.Axes.{has_axis, axis_of}
use Rattle.apl_array.specs.Shape.{IsIndexOf}
use Rattle.apl_array.specs.Array.{ArrayValue, element_at}
use Rattle.apl_array.specs.Range.{in_range}
use Rattle.apl_answer.specs.declared.fault.OpFault.{OpFault}
use Rattle.apl_answer.specs.Arguments.{number_of, rank_of}
use Rattle.apl_answer.specs.Rows.{result_of}
use Rattle.apl_summary.specs.ConsecutiveSums.{total}
use Rattle.apl_reduce.specs.ExactFolds.{numbers_at}
use Rattle.apl_reduce.specs.Refusals.{IsLimitOr}
use Rattle.apl_scan.specs.Scanning.{scan_row}

-- the numbers of the line along axis k that goes through an index list
abbrev pub line_through : ArrayValue → ℕ → List ℕ → List ℤ
line_through b k index = map (λ i. number_of (element_at b (slice_set index k i))) (range_with_len 0 (slice_index b.shape k))

-- the sum of some consecutive items of a line along axis k is outside the range: of `count` items from item `from` on
abbrev pub HasSumOutsideAlong : ArrayValue → ℕ → Type 0
HasSumOutsideAlong b k =
    (index : List ℕ) × (from : ℕ) × (count : ℕ) × IsIndexOf b.shape index × (in_range (total (take count (drop from (line_through b k index)))) ≡ false)

-- the sum of the items of its line up to each index list
abbrev pub running_sums : ArrayValue → ℕ → ArrayValue
running_sums b k = numbers_at b.shape (λ index. total (take (slice_index index k + 1) (line_through b k index)))

-- ---- along an axis argument

-- the array has this axis
abbrev pub HasAxis : ArrayValue → Axis → Type 0
HasAxis b axis = IsTrue (has_axis axis (rank_of b))

-- how long the axis is
abbrev pub length_along : ArrayValue → Axis → ℕ
length_along b axis = slice_index b.shape (axis_of axis (rank_of b))

-- `+\B` along an axis
abbrev pub sum_scan : ArrayValue → Axis → Result ArrayValue OpFault
sum_scan b axis = result_of (scan_row Plus b axis)

-- the sum of some consecutive items of a line along the axis is outside the range
abbrev pub HasSumOutside : ArrayValue → Axis → Type 0
HasSumOutside b axis = HasSumOutsideAlong b (axis_of axis (rank_of b))

-- +\B is the running sums, or `Limit` exactly if the sum of some consecutive items of a line is outside the range
abbrev pub ScansToSums : ArrayValue → Axis → Type 0
ScansToSums b axis = IsLimitOr (HasSumOutside b axis) (running_sums b (axis_of axis (rank_of b))) (sum_scan b axis)
