-- The places of a row of an outer product.
use Rattle.std.proofs.Common.{◌≡◌, ℕ, pos, ◌+◌, ◌*◌, ◌/◌, ◌%◌, ◌<◌, List, length, map, take, drop, slice_index_or, sym, ap, ◌∙◌, arith, length-drop}
use Rattle.std.proofs.Math.Nat.{div-lt_iff_lt-mul}
use Rattle.std.proofs.lemmas.Nat.{div-add-mod', div-mul-add, mod-mul-add}
use Rattle.std.proofs.lemmas.List.{get_or-drop, get_or-take, get_or-map, take-map, drop-map, length-take, length-map}
use Rattle.apl_array.specs.declared.array.Elem.{Elem}
use Rattle.apl_array.specs.declared.array.Elem.TheVariants.{Int}
use Rattle.apl_array.specs.declared.function.ScalarFunction.{ScalarFunction}
use Rattle.apl_scalar.specs.Scalar.{dyadic_of}
use Rattle.apl_reduce.specs.Items.{item_in, outer_number, pair_number}

pub same_row : (n from k : ℕ) → from % n + k < n → ((from + k) / n ≡ from / n) × ((from + k) % n ≡ from % n + k)
same_row n from k below =
    let is : from / n * n + (from % n + k) ≡ from + k = omega (arith, div-add-mod' from n) in (
      ap (λ p. p / n) (sym is) ∙ div-mul-add (from / n) n (from % n + k) below,
      ap (λ p. p % n) (sym is) ∙ mod-mul-add (from / n) n (from % n + k) below,
    )

-- element k of a stretch of a list
stretch : {B : Type 0} (of : B → Elem) (xs : List B) (column n k : ℕ) → k < n → item_in (map of xs) (column + k) ≡ item_in (map of (take n (drop column xs))) k
stretch of xs column n k inside =
    let d = Int (pos 0) in
    sym (ap (λ l. slice_index_or l k d) (sym (take-map of n (drop column xs)) ∙ ap (take n) (sym (drop-map of column xs)))
    ∙ get_or-take n (drop column (map of xs)) k d inside
    ∙ get_or-drop column (map of xs) k d)

module _ {A B : Type 0} (left_of : A → Elem) (right_of : B → Elem) where
  pub row_pair : (f : ScalarFunction) (left : List A) (right : List B) (from column row n k : ℕ) (d : A) → column ≡ from % length right → row ≡ from / length right
      → from < length left * length right → k < length (take n (drop column right))
      → outer_number f (map left_of left) (map right_of right) (from + k) ≡ pair_number f (left_of (slice_index_or left row d)) (map right_of (take n (drop column right))) k
  row_pair f left right from column row n k d column_is row_is within inside =
      let wide : length (map right_of right) ≡ length right = length-map right right_of in
      let taken = length-take n (drop column right) in
      let rest = length-drop column right in
      let below : from % length right + k < length right = omega (arith, taken, rest, column_is) in
      let same = same_row (length right) from k below in
      let here : row < length left = omega (arith, (div-lt_iff_lt-mul {k = length right} {x = from} {y = length left} (omega (arith, below))).1 within, row_is) in
      let first = ap (λ m. item_in (map left_of left) ((from + k) / m)) wide ∙ ap (item_in (map left_of left)) (same.0 ∙ sym row_is) ∙ get_or-map left_of left row d (Int (pos 0)) here in
      let second = ap (λ m. item_in (map right_of right) ((from + k) % m)) wide
      ∙ ap (item_in (map right_of right)) (same.1 ∙ ap (λ c. c + k) (sym column_is))
      ∙ stretch right_of right column n k (omega (arith, taken)) in
      ap (λ x. dyadic_of f x (item_in (map right_of right) ((from + k) % length (map right_of right)))) first
      ∙ ap (dyadic_of f (left_of (slice_index_or left row d))) second
