use Rattle.std.proofs.Common.{◌≡◌, ◌+◌, length, map, reverse, slice_index, sum, eqb-true, ◌∙◌, arith}
use Rattle.std.specs.List.{list_all}
use Rattle.std.proofs.lemmas.Bool.{and_parts}
use Rattle.std.proofs.lemmas.List.{length-map}
use Rattle.apl_array.specs.Axes.{from_origin, origin_number, place_number, axis_of}
use Rattle.apl_array.specs.Shape.{count_of}
use Rattle.apl_answer.specs.Arguments.{rank_of, size_of, is_natural, number_of, numbers_of}
use Rattle.apl_struct.specs.Building.{shape_of_row, ravel_row, reshape_row, iota_row}
use Rattle.apl_struct.specs.Joining.{joined_rank, slices_shape, catenate_row}
use Rattle.apl_struct.specs.Taking.{take_row, drop_row}
use Rattle.apl_struct.specs.Rearranging.{reverse_row, rotate_row, transpose_row, are_all_named, transpose_by_row}
use Rattle.apl_struct.specs.Compressing.{as_vector, replicate_row, expand_row}
use Rattle.apl_struct.specs.Indexing.{selected_shape, last_choice, select_row, replace_row}
use Rattle.apl_struct.proofs.Limits.{lawful_vector, lawful_reverse, axis_most, natural_in, origin_most, element_in_in, element_at_in, element_or_fill_in, catenated_in, replaced_in}
use Rattle.apl_struct.proofs.Permuted.{lawful_transposed}
use Rattle.apl_struct.proofs.Takings.{as_vector_in}
use Rattle.apl_struct.proofs.laws.structural_answers_are_within_limits.Goals as goal

pub returns : goal.returns
returns c =
    let law = c.answer_is_within_limits.ensures.row in
    let decided = c.shape_is_decided.ensures in
    record {
      shape_of = λ b r h.
          law (shape_of_row b) r (λ passed. lawful_vector (rank_of b) (omega (arith, h.shape.rank)))
          (λ passed index inside. natural_in (slice_index b.shape (slice_index index 0)) (omega (arith, axis_most b.shape (slice_index index 0) h.shape)));
      ravel = λ b r h. law (ravel_row b) r (λ passed. lawful_vector (size_of b) h.shape.count) (λ passed index inside. element_in_in b (slice_index index 0) h.numbers);
      reshape = λ a b r g h. law (reshape_row a b) r (λ passed. (decided _).0 passed.1.1.1.0) (λ passed index inside. element_in_in b _ h.numbers);
      iota = λ origin n r h.
          law (iota_row n origin) r (λ passed. (decided _).0 passed.1.1.1.1.0)
          (λ passed index inside.
          let most = ((decided (iota_row n origin).shape).0 passed.1.1.1.1.0).axes 0 0 (omega arith) in
          natural_in (origin_number origin + slice_index index 0) (omega (arith, origin_most origin, inside.below 0 (omega arith), most)));
      catenate = λ axis a b r g h.
          let rank = joined_rank a b in
          let k = axis_of axis rank in
          law (catenate_row a b axis) r (λ passed. (decided _).0 passed.1.1.1.1.0)
          (λ passed index inside. catenated_in rank k (slice_index (slices_shape rank k a b) k) a b index g.numbers h.numbers);
      take = λ a b r g h. law (take_row a b) r (λ passed. (decided _).0 passed.1.1.1.1.0) (λ passed index inside. element_or_fill_in _ _ h.numbers);
      drop = λ a b r g h. law (drop_row a b) r (λ passed. (decided _).0 passed.1.1.1.1.0) (λ passed index inside. element_in_in b _ h.numbers);
      reverse = λ axis b r h. law (reverse_row b axis) r (λ passed. h.shape) (λ passed index inside. element_at_in b _ h.numbers);
      rotate = λ axis a b r g h. law (rotate_row a b axis) r (λ passed. h.shape) (λ passed index inside. element_at_in b _ h.numbers);
      transpose = λ b r h.
          law (transpose_row b) r (λ passed. lawful_reverse b.shape (c.reversed_index_is_lawful.ensures.count b.shape) h.shape)
          (λ passed index inside. element_at_in b (reverse index) h.numbers);
      transpose_by = λ origin a b r g h.
          let numbers = map (from_origin origin) (numbers_of a) in
          let axes = map place_number numbers in
          law (transpose_by_row a b origin) r
          (λ passed.
          let same : size_of a ≡ rank_of b = eqb-true (size_of a) (rank_of b) passed.1.0 in
          let long : length axes ≡ length a.ravel = length-map numbers place_number ∙ length-map (numbers_of a) (from_origin origin) ∙ length-map a.ravel number_of in
          let named = and_parts (list_all is_natural numbers) (are_all_named axes) passed.1.1.1.0 in
          lawful_transposed c.transposed_index_has_place.ensures.shape axes b.shape (long ∙ g.len ∙ same) named.1 h.shape)
          (λ passed index inside. element_at_in b _ h.numbers);
      replicate = λ axis a b r g h.
          law (replicate_row a b axis) r (λ passed. (decided _).0 passed.1.1.1.1.0)
          (λ passed index inside. element_at_in (as_vector (size_of a) b) _ (as_vector_in (size_of a) b h.numbers));
      expand = λ axis a b r g h.
          let n = sum (map place_number (numbers_of a)) in
          law (expand_row a b axis) r (λ passed. (decided _).0 passed.1.1.1.1.0)
          (λ passed index inside. element_or_fill_in (as_vector n b) _ (as_vector_in n b h.numbers));
      select = λ a r slots origin h. law (select_row a slots origin) r (λ passed. (decided _).0 passed.1.1.1.0) (λ passed index inside. element_at_in a _ h.numbers);
      replace = λ a b r slots origin g h.
          let selected = selected_shape a.shape slots in
          law (replace_row a slots b origin) r (λ passed. g.shape)
          (λ passed index inside. replaced_in a b index (last_choice origin slots selected index (count_of selected)) g.numbers h.numbers);
    }
