-- f\B.
use Rattle.std.specs.Prelude.{ℕ, zero, suc, ◌+◌, List, [], ◌∷◌, map, Bool, true, false, ◌||◌, Result, Ok, Err, if◌then◌else◌, slice_index, slice_set}
use Rattle.std.specs.List.{range_with_len}
use Rattle.apl_array.specs.declared.array.Elem.{Elem}
use Rattle.apl_array.specs.declared.array.Kind.{Kind}
use Rattle.apl_array.specs.declared.array.Kind.TheVariants.{Number, Character}
use Rattle.apl_array.specs.declared.axis.Axis.{Axis}
use Rattle.apl_array.specs.declared.function.ScalarFunction.{ScalarFunction}
use Rattle.apl_array.specs.Axes.{has_axis, axis_of}
use Rattle.apl_array.specs.Array.{ArrayValue, element_at}
use Rattle.apl_answer.specs.declared.fault.OpFault.TheVariants.{Index}
use Rattle.apl_answer.specs.Arguments.{rank_of, is_scalar}
use Rattle.apl_answer.specs.Rows.{Row}
use Rattle.apl_pool.specs.declared.kernel.Fault.{Fault}
use Rattle.apl_pool.specs.declared.kernel.Fault.TheVariants.{Domain}
use Rattle.apl_reduce.specs.Folding.{reduction}

-- at most one item
abbrev pub is_short : ℕ → Bool
is_short zero = true
is_short (suc zero) = true
is_short (suc (suc n)) = false

-- a scalar, and an array of at most one item along axis k, is answered as it is
abbrev pub is_unchanged : ArrayValue → ℕ → Bool
is_unchanged b k = is_scalar b || is_short (slice_index b.shape k)

-- the items along axis k up to the one at an index list, in order
abbrev pub items_up_to : ArrayValue → ℕ → List ℕ → List Elem
items_up_to b k index = map (λ i. element_at b (slice_set index k i)) (range_with_len 0 (slice_index index k + 1))

-- characters are Domain, also where they are folded alone
abbrev pub scanned : ScalarFunction → Kind → List Elem → Result Elem Fault
scanned f Number items = reduction f items
scanned f Character items = Err Domain

-- f\B along an axis: at each index list the reduction of the items up to it
abbrev pub scan_row : ScalarFunction → ArrayValue → Axis → Row
scan_row f b axis =
    let k = axis_of axis (rank_of b) in
    record {
      checks = (has_axis axis (rank_of b), Index) ∷ [];
      shape = b.shape;
      kind = if is_unchanged b k then b.kind else Number;
      outcome = λ index. if is_unchanged b k then Ok (element_at b index) else scanned f b.kind (items_up_to b k index);
    }
