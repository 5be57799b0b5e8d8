-- The least or the greatest of items, by its number.
use Rattle.std.specs.Prelude.{ℕ, ◌+◌, Bool, ℤ, Result, Ok, if◌then◌else◌}
use Rattle.std.specs.Int.{int_min, int_max}
use Rattle.apl_array.specs.declared.function.ScalarFunction.{ScalarFunction}
use Rattle.apl_array.specs.declared.function.ScalarFunction.TheVariants.{Floor, Ceiling}
use Rattle.apl_pool.specs.declared.kernel.Fault.{Fault}
use Rattle.apl_summary.specs.declared.extremum.Extremum.{Extremum}

-- `⌊` or `⌈`
abbrev pub extreme_function : Bool → ScalarFunction
extreme_function is_least = if is_least then Floor else Ceiling

-- the less or the greater of two numbers
abbrev pub extreme_of_two : Bool → ℤ → ℤ → ℤ
extreme_of_two is_least x y = if is_least then int_min x y else int_max x y

-- the extremum of some items, which is this one
abbrev pub extremum : ℕ → ℤ → Extremum
extremum count item = record { count = count; item = item }

-- the extremum of one item
abbrev pub extremum_of_one : ℤ → Extremum
extremum_of_one x = extremum 1 x

-- the extremum of the left and the right items together
abbrev pub extremum_of_both : Bool → Extremum → Extremum → Extremum
extremum_of_both is_least a b = extremum (a.count + b.count) (extreme_of_two is_least a.item b.item)

-- nothing is refused
abbrev pub extreme_outcome : Bool → Extremum → ℤ → Result ℤ Fault
extreme_outcome is_least e right = Ok (extreme_of_two is_least e.item right)
