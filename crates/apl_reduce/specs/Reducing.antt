-- f/B.
use Rattle.std.specs.Prelude.{ℕ, List, [], ◌∷◌, map, ◌||◌, ◌==◌, if◌then◌else◌, slice_index, insert, remove}
use Rattle.std.specs.List.{range_with_len}
use Rattle.apl_array.specs.declared.array.Elem.{Elem}
use Rattle.apl_array.specs.declared.array.Kind.{Kind}
use Rattle.apl_array.specs.declared.array.Kind.TheVariants.{Number}
use Rattle.apl_array.specs.declared.axis.Axis.{Axis}
use Rattle.apl_array.specs.declared.function.ScalarFunction.{ScalarFunction}
use Rattle.apl_array.specs.Axes.{has_axis, axis_of}
use Rattle.apl_array.specs.Shape.{is_shape}
use Rattle.apl_array.specs.Array.{ArrayValue, element_at}
use Rattle.apl_answer.specs.declared.fault.OpFault.TheVariants.{Index, Limit}
use Rattle.apl_answer.specs.Arguments.{rank_of, is_scalar, only_element}
use Rattle.apl_answer.specs.Rows.{Row}
use Rattle.apl_reduce.specs.Folding.{reduction}

-- the items along axis k, in order, at an index list without that axis; a scalar is its only item
abbrev pub items_along : ArrayValue → ℕ → List ℕ → List Elem
items_along b k index =
    if is_scalar b then only_element b ∷ []
    else map (λ i. element_at b (insert index k i)) (range_with_len 0 (slice_index b.shape k))

-- of B's kind if an item is answered untested, else of numbers
abbrev pub reduced_kind : ArrayValue → ℕ → Kind
reduced_kind b k = if is_scalar b || (slice_index b.shape k == 1) then b.kind else Number

-- f/B along an axis, which the result lacks
abbrev pub reduce_row : ScalarFunction → ArrayValue → Axis → Row
reduce_row f b axis =
    let k = axis_of axis (rank_of b) in
    let shape = remove b.shape k in
    record {
      checks = (has_axis axis (rank_of b), Index) ∷ (is_shape shape, Limit) ∷ [];
      shape = shape;
      kind = reduced_kind b k;
      outcome = λ index. reduction f (items_along b k index);
    }
