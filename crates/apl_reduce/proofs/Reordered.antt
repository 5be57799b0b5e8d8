-- An inner product is the same with the right argument in the order of its columns.
use Rattle.std.proofs.Common.{◌≡◌, ℕ, zero, suc, ℤ, pos, ◌+◌, ◌*◌, ◌/◌, ◌%◌, ◌<◌, ◌≤◌, List, [], ◌∷◌, length, map, get_or, Result, Ok, refl, sym, ap, subst, ◌∙◌, arith}
use Rattle.std.proofs.Math.ListN.{get_or-map}
use Rattle.std.proofs.Math.Nat.{mod-lt, mod-eq_of_lt, mul-le-mul_right, mul-add-mod_self_right}
use Rattle.std.proofs.lemmas.Nat.{div-mul-add}
use Rattle.std.proofs.lemmas.List.{get_or_default}
use Rattle.std.specs.Prelude.{Some, IsOk}
use Rattle.std.specs.List.{range_with_len}
use Rattle.apl_array.specs.declared.array.Elem.{Elem}
use Rattle.apl_array.specs.declared.array.Elem.TheVariants.{Int}
use Rattle.apl_array.specs.declared.function.ScalarFunction.{ScalarFunction}
use Rattle.apl_answer.specs.Pointwise.{collect_outcomes}
use Rattle.apl_pool.specs.declared.kernel.Fault.{Fault}
use Rattle.apl_pool.specs.declared.kernel.Stop.{Stop}
use Rattle.apl_pool.specs.declared.kernel.Stop.TheVariants.{Fault as FaultAt, Memory}
use Rattle.apl_pool.specs.declared.kernel.TheConstants.{MOST_PLACES}
use Rattle.apl_pool.specs.Pool.{AreValues, IsStopOf}
use Rattle.apl_scalar.specs.Scalar.{as_element, dyadic_of}
use Rattle.apl_walk.specs.declared.window.Window.{Window as WindowMap}
use Rattle.apl_walk.specs.declared.maps.Map.{Map}
use Rattle.apl_walk.specs.declared.maps.Map.TheVariants.{Window}
use Rattle.apl_walk.specs.Gathered.{value_or}
use Rattle.apl_walk.specs.Maps.{step_of, walked}
use Rattle.apl_walk.specs.Steps.{and_step}
use Rattle.apl_reduce.specs.declared.layouts.Layout.{Layout}
use Rattle.apl_reduce.specs.Items.{as_number, judged_items, item_in}
use Rattle.apl_reduce.specs.Layouts.{left_place, right_place, column_place, IsWithin, HasColumns, IsByColumns, AreByColumns, inner_item, inner_number}
use Rattle.apl_reduce.specs.Products.{judged_reduction}

-- ---- passes over the same places

module _ {T : Type 0} (p q : ℕ → Result T Fault) (count : ℕ) (same : (place : ℕ) → place < count → p place ≡ q place) where
  pub values_same : (values : List T) → AreValues p count values → AreValues q count values
  values_same values are = record { len = are.len; each = λ place d inside. sym (same place inside) ∙ are.each place d inside }

  pub stop_same : (stop : Stop) → IsStopOf p count stop → IsStopOf q count stop
  stop_same (FaultAt place fault) is =
      record {
        below = is.below;
        faulty = sym (same place is.below) ∙ is.faulty;
        earlier = λ k before. subst IsOk (same k (omega (arith, is.below))) (is.earlier k before);
      }
  stop_same Memory is = tt

-- ---- the same items

module _ (p q : ℕ → Result ℤ Fault) where
  elements_same : (start n : ℕ) → ((k : ℕ) → start ≤ k → k < start + n → p k ≡ q k) → map (λ k. as_element (p k)) (range_with_len start n) ≡ map (λ k. as_element (q k)) (range_with_len start n)
  elements_same start zero same = refl
  elements_same start (suc n) same =
      ap (λ x. as_element x ∷ map (λ k. as_element (p k)) (range_with_len (start + 1) n)) (same start (omega arith) (omega arith))
      ∙ ap (λ xs. as_element (q start) ∷ xs) (elements_same (start + 1) n (λ k from below. same k (omega arith) (omega arith)))

  pub judged_same : (f : ScalarFunction) (n : ℕ) → ((k : ℕ) → k < n → p k ≡ q k) → judged_items p f n ≡ judged_items q f n
  judged_same f n same = ap (λ xs. judged_reduction f (collect_outcomes xs)) (elements_same 0 n (λ k from below. same k (omega arith)))

-- ---- an inner product

pub has_columns : (layout : Layout) (left right : ℕ) → IsWithin layout left right → layout.columns ≤ layout.count → HasColumns layout right
has_columns layout left right within several = λ column k narrow below.
    let own : column % layout.columns ≡ column = mod-eq_of_lt narrow in
    subst (λ c. c * layout.right.line + k * layout.right.item < right) own (within.right_item column k (omega arith) below)

module _ (layout ordered : Layout) (is : IsByColumns layout ordered) where
  left_place_same : (place k : ℕ) → left_place ordered place k ≡ left_place layout place k
  left_place_same place k = ap (λ c. place / c * ordered.left.line + k * ordered.left.item) is.columns ∙ ap (λ strides. place / layout.columns * strides.line + k * strides.item) is.left

  right_place_is : (place k : ℕ) → right_place ordered place k ≡ place % layout.columns * layout.items + k
  right_place_is place k =
      ap (λ c. place % c * ordered.right.line + k * ordered.right.item) is.columns ∙ ap (λ l. place % layout.columns * l + k * ordered.right.item) is.right_line
      ∙ ap (λ i. place % layout.columns * layout.items + k * i) is.right_item ∙ (omega arith)

  narrow : (place : ℕ) → place % layout.columns < layout.columns
  narrow place = mod-lt place layout.some

  pub ordered_within : (left right size : ℕ) → IsWithin layout left right → layout.columns * layout.items ≤ MOST_PLACES → size ≡ layout.columns * layout.items → IsWithin ordered left size
  ordered_within left right size within most long =
      record {
        left_start = λ place inside.
            let same : place / ordered.columns * ordered.left.line ≡ place / layout.columns * layout.left.line =
            ap (λ c. place / c * ordered.left.line) is.columns ∙ ap (λ strides. place / layout.columns * strides.line) is.left in
            omega (arith, same, within.left_start place (omega (arith, is.count)));
        right_start = λ place inside.
            let same : place % ordered.columns * ordered.right.line ≡ place % layout.columns * layout.items =
            ap (λ c. place % c * ordered.right.line) is.columns ∙ ap (λ l. place % layout.columns * l) is.right_line in
            let row : place % layout.columns + 1 ≤ layout.columns = omega (arith, narrow place) in
            omega (arith, same, mul-le-mul_right layout.items row);
        left_item = λ place k inside below.
            omega (arith, left_place_same place k, within.left_item place k (omega (arith, is.count)) (omega (arith, is.items)));
        right_item = λ place k inside below.
            let row : place % layout.columns + 1 ≤ layout.columns = omega (arith, narrow place) in
            omega (arith, right_place_is place k, is.items, mul-le-mul_right layout.items row);
      }

  module _ (left : List Elem) (numbers columns : List ℤ) (are : AreByColumns layout numbers columns) where
    right_same : (place k : ℕ) → k < layout.items → item_in (map Int columns) (right_place ordered place k) ≡ item_in (map Int numbers) (right_place layout place k)
    right_same place k below =
        ap (item_in (map Int columns)) (right_place_is place k) ∙ get_or-map Int columns (place % layout.columns * layout.items + k) (pos 0)
        ∙ ap Int (are.each (place % layout.columns) k (narrow place) below) ∙ sym (get_or-map Int numbers (right_place layout place k) (pos 0))

    item_same : (g : ScalarFunction) (place k : ℕ) → k < layout.items → inner_item ordered left (map Int columns) g place k ≡ inner_item layout left (map Int numbers) g place k
    item_same g place k below =
        ap (λ i. dyadic_of g (item_in left i) (item_in (map Int columns) (right_place ordered place k))) (left_place_same place k)
        ∙ ap (dyadic_of g (item_in left (left_place layout place k))) (right_same place k below)

    pub number_same : (f g : ScalarFunction) (place : ℕ) → inner_number ordered left (map Int columns) f g place ≡ inner_number layout left (map Int numbers) f g place
    number_same f g place =
        ap (λ n. as_number (judged_items (inner_item ordered left (map Int columns) g place) f n)) is.items
        ∙ ap as_number (judged_same (inner_item ordered left (map Int columns) g place) (inner_item layout left (map Int numbers) g place) f layout.items (item_same g place))

-- ---- the columns

same_number : (x y : ℤ) (r : Result ℤ Fault) → r ≡ Ok x → r ≡ Ok y → x ≡ y
same_number x y r first second = cc

-- a walk along columns and items
module _ (layout : Layout) (numbers : List ℤ) (fill : ℤ) (columns items : WindowMap) where
  abbrev pub reached : ℕ → Result ℤ Fault
  reached place = Ok (value_or numbers fill (and_step (step_of items (place % items.extent)) (walked (Window columns ∷ []) (place / items.extent))))

  module _ (within : HasColumns layout (length numbers)) (wide : columns.extent ≡ layout.columns) (long : items.extent ≡ layout.items)
      (column_step : (i : ℕ) → i < layout.columns → step_of columns i ≡ Some (i * layout.right.line)) (item_step : (i : ℕ) → i < layout.items → step_of items i ≡ Some (i * layout.right.item)) where
    reached_is : (column k : ℕ) → column < layout.columns → k < layout.items → reached (column * layout.items + k) ≡ Ok (get_or numbers (column_place layout column k) (pos 0))
    reached_is column k narrow below =
        let place = column * layout.items + k in
        let add : ℕ → ℕ → Result ℤ Fault = λ i c. Ok (value_or numbers fill (and_step (step_of items i) (and_step (step_of columns c) (Some 0)))) in
        let item : place % items.extent ≡ k = ap (λ e. place % e) long ∙ mul-add-mod_self_right column layout.items k ∙ mod-eq_of_lt below in
        let quotient : place / items.extent ≡ column = ap (λ e. place / e) long ∙ div-mul-add column layout.items k below in
        let own : place / items.extent % columns.extent ≡ column = ap (λ c. c % columns.extent) quotient ∙ ap (λ e. column % e) wide ∙ mod-eq_of_lt narrow in
        let there : k * layout.right.item + (column * layout.right.line + 0) ≡ column_place layout column k = omega arith in
        ap (λ i. add i (place / items.extent % columns.extent)) item ∙ ap (add k) own
        ∙ ap (λ s. Ok (value_or numbers fill (and_step s (and_step (step_of columns column) (Some 0))))) (item_step k below)
        ∙ ap (λ s. Ok (value_or numbers fill (and_step (Some (k * layout.right.item)) (and_step s (Some 0))))) (column_step column narrow)
        ∙ ap (λ p. Ok (get_or numbers p fill)) there
        ∙ ap Ok (get_or_default numbers (column_place layout column k) fill (pos 0) (within column k narrow below))

    by_columns : (values : List ℤ) → AreValues reached (columns.extent * 1 * items.extent) values → AreByColumns layout numbers values
    by_columns values are =
        let all : columns.extent * 1 * items.extent ≡ layout.columns * layout.items = ap (λ e. e * 1 * items.extent) wide ∙ ap (λ e. layout.columns * 1 * e) long ∙ omega arith in
        record {
          len = are.len ∙ all;
          each = λ column k narrow below.
              let row : column + 1 ≤ layout.columns = omega arith in
              let inside : column * layout.items + k < columns.extent * 1 * items.extent = omega (arith, mul-le-mul_right layout.items row, all) in
              same_number _ _ (reached (column * layout.items + k)) (are.each (column * layout.items + k) (pos 0) inside) (reached_is column k narrow below);
        }

    pub walked_by_columns : (values elements : List ℤ) (outer : List Map) (last : WindowMap) (count : ℕ) → elements ≡ numbers → outer ≡ Window columns ∷ [] → last ≡ items → count ≡ columns.extent * 1 * items.extent
        → AreValues (λ place. Ok (value_or elements fill (and_step (step_of last (place % last.extent)) (walked outer (place / last.extent))))) count values → AreByColumns layout numbers values
    walked_by_columns values elements outer last count same along across all are = by_columns values (rw (same, along, across, all) at are)
