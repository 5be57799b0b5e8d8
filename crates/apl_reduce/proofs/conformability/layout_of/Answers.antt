use Rattle.std.proofs.Common.{◌≡◌, ◌++◌, drop, sym, ap, ◌∙◌, arith}
use Rattle.std.specs.Prelude.{if◌then◌else◌}
use Rattle.apl_array.specs.Shape.{count_of}
use Rattle.apl_reduce.specs.Products.{left_shape, right_shape}
use Rattle.apl_reduce.proofs.Joined.{PlaceLaws, dropped_part}
use Rattle.apl_reduce.proofs.Strides.{AreStrides, meets_left, meets_right, within_left, within_right, begins_left, begins_right}
use Rattle.apl_reduce.proofs.conformability.layout_of.Goals as goal

laws : (c : goal.After-result-1) → PlaceLaws
laws c =
    record {
      lawful = c.places_match_index_lists.ensures.lawful;
      same_place = c.places_match_index_lists.ensures.same_place;
      index = c.joined_index_has_place.ensures.index;
    }

strides : (c : goal.After-result-1)
    → AreStrides c.args.a.now c.args.b.now c.args.items c.columns_from-columns.result c.new.result.line c.new.result.item c.new-2.result.line c.new-2.result.item
strides c =
    let a = c.args.a.now in
    let b = c.args.b.now in
    let shape : c.args.shape.now ≡ left_shape a ++ right_shape b = c.requires.shape in
    let rest : drop c.args.left_axes c.args.shape.now ≡ right_shape b =
    ap (drop c.args.left_axes) shape ∙ dropped_part (left_shape a) (right_shape b) c.args.left_axes (sym c.requires.axes) in
    record {
      left_lawful = c.kind.ensures.lawful;
      right_lawful = c.kind-2.ensures.lawful;
      common = c.requires.common;
      items_are = c.requires.items;
      columns_are = λ some. c.columns_from-columns.ensures.value (omega (arith, some, ap count_of shape)) ∙ ap count_of rest;
      left_line_is = c.new.ensures.line ∙ ap (λ s. if s then 0 else c.args.items) c.is_single.ensures;
      left_item_is = c.new.ensures.item ∙ ap (λ s. if s then 0 else 1) c.is_single.ensures;
      right_line_is = c.new-2.ensures.line ∙ ap (λ s. if s then 0 else 1) c.is_single-2.ensures;
      right_item_is = c.new-2.ensures.item ∙ ap (λ s. if s then 0 else c.columns_from-columns.result) c.is_single-2.ensures;
    }

pub returns-clause-within : goal.returns-clause-within
returns-clause-within c =
    let joined = c.joined_index_has_place.ensures in
    let shape : count_of c.args.shape.now ≡ count_of (left_shape c.args.a.now ++ right_shape c.args.b.now) = ap count_of c.requires.shape in
    record {
      left_start = λ place inside. begins_left (laws c) joined.count joined.place _ _ _ _ _ _ _ _ (strides c) place (omega (arith, inside, shape, c.count-count.ensures.count));
      right_start = λ place inside.
          begins_right (laws c) joined.count joined.place _ _ _ _ _ _ _ _ (strides c) place (omega (arith, inside, shape, c.count-count.ensures.count)) c.columns_from-columns.ensures.most;
      left_item = λ place k inside below.
          within_left (laws c) joined.count joined.place _ _ _ _ _ _ _ _ (strides c) place k (omega (arith, inside, shape, c.count-count.ensures.count)) below;
      right_item = λ place k inside below.
          within_right (laws c) joined.count joined.place _ _ _ _ _ _ _ _ (strides c) place k (omega (arith, inside, shape, c.count-count.ensures.count)) below;
    }

pub returns-clause-left : goal.returns-clause-left
returns-clause-left c = λ place k inside.
    let joined = c.joined_index_has_place.ensures in
    let shape = c.requires.shape in
    rw shape (meets_left (laws c) joined.count joined.place _ _ _ _ _ _ _ _ (strides c) place k (rw shape at inside))

pub returns-clause-right : goal.returns-clause-right
returns-clause-right c = λ place k inside.
    let joined = c.joined_index_has_place.ensures in
    let shape = c.requires.shape in
    rw shape (meets_right (laws c) joined.count joined.place _ _ _ _ _ _ _ _ (strides c) place k (rw shape at inside))
