-- The strides of an inner product lead to the elements that meet, and stay within the arguments.
use Rattle.std.proofs.Common.{◌≡◌, ℕ, ◌+◌, ◌-◌, ◌*◌, ◌/◌, ◌%◌, ◌<◌, ◌≤◌, true, false, List, ◌++◌, length, refl, sym, ap, ◌∙◌, arith}
use Rattle.std.specs.Prelude.{if◌then◌else◌, ◌^◌}
use Rattle.apl_array.specs.Array.{ArrayValue, IsArray}
use Rattle.apl_array.specs.Shape.{count_of, place_of, index_at}
use Rattle.apl_answer.specs.Arguments.{rank_of}
use Rattle.apl_reduce.specs.Items.{item_in}
use Rattle.apl_reduce.specs.Products.{is_single, last_length, first_length, is_common, common_length, left_shape, right_shape, left_element, right_element}
use Rattle.apl_reduce.proofs.Joined.{PlaceLaws, AreParts, parts_of}
use Rattle.apl_reduce.proofs.InnerPlaces.{lengths_agree, left_axes, left_meets, left_within, left_begins, right_meets, right_within, right_begins}

pub record AreStrides (a b : ArrayValue) (items columns left_line left_item right_line right_item : ℕ) : Type 0 where
  pub left_lawful : IsArray a
  pub right_lawful : IsArray b
  pub common : is_common a b ≡ true
  pub items_are : items ≡ common_length a b
  pub columns_are : 0 < count_of (left_shape a ++ right_shape b) → columns ≡ count_of (right_shape b)
  pub left_line_is : left_line ≡ (if is_single a then 0 else items)
  pub left_item_is : left_item ≡ (if is_single a then 0 else 1)
  pub right_line_is : right_line ≡ (if is_single b then 0 else 1)
  pub right_item_is : right_item ≡ (if is_single b then 0 else columns)

module _ (laws : PlaceLaws) (counts : (x y : List ℕ) → count_of (x ++ y) ≡ count_of x * count_of y)
    (placed : (x y i j : List ℕ) → length i ≡ length x → place_of (x ++ y) (i ++ j) ≡ place_of x i * count_of y + place_of y j)
    (a b : ArrayValue) (items columns left_line left_item right_line right_item : ℕ) (is : AreStrides a b items columns left_line left_item right_line right_item) where
  shape : List ℕ
  shape = left_shape a ++ right_shape b

  last : is_single a ≡ false → items ≡ last_length a
  last = (lengths_agree (is_single a) (is_single b) (last_length a) (first_length b) items is.common is.items_are).0

  first : is_single b ≡ false → items ≡ first_length b
  first = (lengths_agree (is_single a) (is_single b) (last_length a) (first_length b) items is.common is.items_are).1

  parts : (place : ℕ) → place < count_of (left_shape a ++ right_shape b) → AreParts (left_shape a) (right_shape b) place
  parts place inside = parts_of laws (left_shape a) (right_shape b) place (omega (arith, inside, counts (left_shape a) (right_shape b)))

  wide : (place : ℕ) → place < count_of (left_shape a ++ right_shape b) → columns ≡ count_of (right_shape b)
  wide place inside = is.columns_are (omega arith)

  left_place_is : (place k : ℕ) → place < count_of (left_shape a ++ right_shape b)
      → place / columns * left_line + k * left_item ≡ place / count_of (right_shape b) * (if is_single a then 0 else items) + k * (if is_single a then 0 else 1)
  left_place_is place k inside =
      ap (λ c. place / c * left_line + k * left_item) (wide place inside) ∙ ap (λ l. place / count_of (right_shape b) * l + k * left_item) is.left_line_is
      ∙ ap (λ i. place / count_of (right_shape b) * (if is_single a then 0 else items) + k * i) is.left_item_is

  right_place_is : (place k : ℕ) → place < count_of (left_shape a ++ right_shape b)
      → place % columns * right_line + k * right_item ≡ place % count_of (right_shape b) * (if is_single b then 0 else 1) + k * (if is_single b then 0 else columns)
  right_place_is place k inside =
      ap (λ c. place % c * right_line + k * right_item) (wide place inside) ∙ ap (λ l. place % count_of (right_shape b) * l + k * right_item) is.right_line_is
      ∙ ap (λ i. place % count_of (right_shape b) * (if is_single b then 0 else 1) + k * i) is.right_item_is

  pub meets_left : (place k : ℕ) → place < count_of (left_shape a ++ right_shape b)
      → item_in a.ravel (place / columns * left_line + k * left_item) ≡ left_element a (index_at (left_shape a ++ right_shape b) place) k
  meets_left place k inside =
      let row = place / count_of (right_shape b) in
      let column = place % count_of (right_shape b) in
      let own = parts place inside in
      ap (item_in a.ravel) (left_place_is place k inside)
      ∙ left_meets counts placed a (is_single a) refl items last (index_at (left_shape a) row) (index_at (right_shape b) column) row k own.len own.left
      ∙ ap (λ index. left_element a index k) (sym own.index)

  pub meets_right : (place k : ℕ) → place < count_of (left_shape a ++ right_shape b)
      → item_in b.ravel (place % columns * right_line + k * right_item) ≡ right_element a b (index_at (left_shape a ++ right_shape b) place) k
  meets_right place k inside =
      let row = place / count_of (right_shape b) in
      let column = place % count_of (right_shape b) in
      let own = parts place inside in
      ap (item_in b.ravel) (right_place_is place k inside)
      ∙ right_meets b (is_single b) refl items first columns (rank_of a - 1) (wide place inside) (index_at (left_shape a) row) (index_at (right_shape b) column) column k
      (own.len ∙ left_axes a (is_single a) refl) own.right
      ∙ ap (λ index. right_element a b index k) (sym own.index)

  pub within_left : (place k : ℕ) → place < count_of (left_shape a ++ right_shape b) → k < items → place / columns * left_line + k * left_item < length a.ravel
  within_left place k inside below =
      let row = place / count_of (right_shape b) in
      let own = parts place inside in
      omega (arith, left_place_is place k inside, left_within counts placed a (is_single a) refl items last row k own.row below, is.left_lawful.len)

  pub within_right : (place k : ℕ) → place < count_of (left_shape a ++ right_shape b) → k < items → place % columns * right_line + k * right_item < length b.ravel
  within_right place k inside below =
      let column = place % count_of (right_shape b) in
      let own = parts place inside in
      let narrow : column < columns = omega (arith, own.column, wide place inside) in
      omega (arith, right_place_is place k inside, right_within b (is_single b) refl items first columns column k (wide place inside) narrow below, is.right_lawful.len)

  pub begins_left : (place : ℕ) → place < count_of (left_shape a ++ right_shape b) → place / columns * left_line ≤ 2 ^ 30
  begins_left place inside =
      let row = place / count_of (right_shape b) in
      let own = parts place inside in
      let same : place / columns * left_line ≡ row * (if is_single a then 0 else items) = ap (λ c. place / c * left_line) (wide place inside) ∙ ap (λ l. row * l) is.left_line_is in
      omega (arith, same, left_begins counts placed a (is_single a) refl items last row own.row, is.left_lawful.shape.count)

  pub begins_right : (place : ℕ) → place < count_of (left_shape a ++ right_shape b) → columns ≤ 2 ^ 30 → place % columns * right_line ≤ 2 ^ 30
  begins_right place inside most =
      let column = place % count_of (right_shape b) in
      let own = parts place inside in
      let narrow : column < columns = omega (arith, own.column, wide place inside) in
      let same : place % columns * right_line ≡ column * (if is_single b then 0 else 1) = ap (λ c. place % c * right_line) (wide place inside) ∙ ap (λ l. column * l) is.right_line_is in
      omega (arith, same, right_begins (is_single b) column columns narrow, most)
