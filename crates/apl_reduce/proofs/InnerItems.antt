-- What the inner product has at a place, of the elements that meet there.
use Rattle.std.proofs.Common.{◌≡◌, ℕ, List, [], ◌∷◌, map, refl, ap, ◌∙◌}
use Rattle.std.specs.List.{range_with_len}
use Rattle.apl_array.specs.declared.array.Elem.TheVariants.{Int}
use Rattle.apl_array.specs.declared.function.ScalarFunction.{ScalarFunction}
use Rattle.apl_array.specs.Array.{ArrayValue}
use Rattle.apl_answer.specs.Elements.{element_outcome}
use Rattle.apl_answer.specs.Pointwise.{collect_outcomes}
use Rattle.apl_reduce.specs.declared.layouts.Layout.{Layout}
use Rattle.apl_reduce.specs.Folding.{pair_of}
use Rattle.apl_reduce.specs.Items.{item_in}
use Rattle.apl_reduce.specs.Layouts.{left_place, right_place, inner_item, inner_number}
use Rattle.apl_reduce.specs.Products.{common_length, left_element, right_element, items_of, judged_reduction}
use Rattle.apl_reduce.proofs.Joined.{outcome_is_element}
use Rattle.apl_reduce.proofs.JudgedItems.{judged_is_number}

map_same : {X Y : Type 0} (f g : X → Y) (xs : List X) → ((x : X) → f x ≡ g x) → map f xs ≡ map g xs
map_same f g [] same = refl
map_same f g (x ∷ xs) same = ap (λ y. y ∷ map f xs) (same x) ∙ ap (λ ys. g x ∷ ys) (map_same f g xs same)

pub inner_outcome : (layout : Layout) (a b : ArrayValue) (f g : ScalarFunction) (index : List ℕ) (place : ℕ) → layout.items ≡ common_length a b
    → ((k : ℕ) → item_in a.ravel (left_place layout place k) ≡ left_element a index k) → ((k : ℕ) → item_in b.ravel (right_place layout place k) ≡ right_element a b index k)
    → element_outcome Int (inner_number layout a.ravel b.ravel f g place) ≡ judged_reduction f (collect_outcomes (items_of g a b index))
inner_outcome layout a b f g index place long left right =
    let here = λ (k : ℕ). pair_of g (item_in a.ravel (left_place layout place k)) (item_in b.ravel (right_place layout place k)) in
    let there = λ (k : ℕ). pair_of g (left_element a index k) (right_element a b index k) in
    outcome_is_element (inner_number layout a.ravel b.ravel f g place) ∙ judged_is_number (inner_item layout a.ravel b.ravel g place) f layout.items
    ∙ ap (λ n. judged_reduction f (collect_outcomes (map here (range_with_len 0 n)))) long
    ∙ ap (λ items. judged_reduction f (collect_outcomes items))
    (map_same here there (range_with_len 0 (common_length a b)) (λ k. ap (λ x. pair_of g x (item_in b.ravel (right_place layout place k))) (left k) ∙ ap (pair_of g (left_element a index k)) (right k)))
