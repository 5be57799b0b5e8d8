-- The elements that meet at a place of an outer product.
use Rattle.std.proofs.Common.{◌≡◌, ℕ, ◌*◌, ◌/◌, ◌%◌, ◌<◌, ◌++◌, length, take, drop, sym, ap, ◌∙◌}
use Rattle.apl_array.specs.declared.function.ScalarFunction.{ScalarFunction}
use Rattle.apl_array.specs.Array.{ArrayValue, element_at, element_in}
use Rattle.apl_array.specs.Shape.{count_of, index_at}
use Rattle.apl_answer.specs.Arguments.{rank_of}
use Rattle.apl_scalar.specs.Scalar.{as_element}
use Rattle.apl_reduce.specs.Folding.{pair_of}
use Rattle.apl_reduce.specs.Items.{item_in, outer_number}
use Rattle.apl_reduce.proofs.Joined.{PlaceLaws, parts_of, taken_part, dropped_part}

module _ (laws : PlaceLaws) where
  pub outer_place : (f : ScalarFunction) (a b : ArrayValue) (place : ℕ) → length b.ravel ≡ count_of b.shape → place < count_of a.shape * count_of b.shape
      → as_element (outer_number f a.ravel b.ravel place)
      ≡ pair_of f (element_at a (take (rank_of a) (index_at (a.shape ++ b.shape) place))) (element_at b (drop (rank_of a) (index_at (a.shape ++ b.shape) place)))
  outer_place f a b place wide inside =
      let n = count_of b.shape in
      let i = index_at a.shape (place / n) in
      let j = index_at b.shape (place % n) in
      let parts = parts_of laws a.shape b.shape place inside in
      let first : item_in a.ravel (place / length b.ravel) ≡ element_at a (take (rank_of a) (index_at (a.shape ++ b.shape) place)) =
      ap (λ m. element_in a (place / m)) wide ∙ ap (element_in a) (sym parts.left)
      ∙ ap (element_at a) (sym (ap (take (rank_of a)) parts.index ∙ taken_part i j (rank_of a) parts.len)) in
      let second : item_in b.ravel (place % length b.ravel) ≡ element_at b (drop (rank_of a) (index_at (a.shape ++ b.shape) place)) =
      ap (λ m. element_in b (place % m)) wide ∙ ap (element_in b) (sym parts.right)
      ∙ ap (element_at b) (sym (ap (drop (rank_of a)) parts.index ∙ dropped_part i j (rank_of a) parts.len)) in
      ap (λ x. pair_of f x (item_in b.ravel (place % length b.ravel))) first
      ∙ ap (pair_of f (element_at a (take (rank_of a) (index_at (a.shape ++ b.shape) place)))) second
