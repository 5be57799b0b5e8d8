use Rattle.std.proofs.Common.{◌≡◌, ◌*◌, ◌<◌, true, List, ◌++◌, ℕ, length, sym, ap, subst, ◌∙◌, rules}
use Rattle.apl_array.specs.Shape.{is_shape, count_of}
use Rattle.apl_answer.specs.Pointwise.{answer_of, IsAnswerOf}
use Rattle.apl_reduce.specs.Products.{outer_row}
use Rattle.apl_reduce.proofs.Joined.{PlaceLaws}
use Rattle.apl_reduce.proofs.OuterPlaces.{outer_place}
use Rattle.apl_reduce.proofs.Passing.{answered}
use Rattle.apl_reduce.proofs.outer_products.outer.Goals as goal

pub outer_elements-requires-clause-places : goal.outer_elements-requires-clause-places
outer_elements-requires-clause-places g c κs within =
    let a = c.args.a.now in
    let b = c.args.b.now in
    let shapes : c.in_ok-shape.shape ≡ a.shape ++ b.shape = search rules in
    ap count_of shapes ∙ c.joined_index_has_place.ensures.count a.shape b.shape
    ∙ ap (λ n. n * count_of b.shape) (sym c.kind.ensures.lawful.len) ∙ ap (λ n. length a.ravel * n) (sym c.kind-2.ensures.lawful.len)

pub returns : goal.returns
returns g c =
    let a = c.args.a.now in
    let b = c.args.b.now in
    let row = outer_row c.args.f a b in
    let places = c.places_match_index_lists.ensures in
    let joined = c.joined_index_has_place.ensures in
    let laws : PlaceLaws = record { lawful = places.lawful; same_place = places.same_place; index = joined.index } in
    let shapes : c.in_ok-shape.shape ≡ a.shape ++ b.shape = search rules in
    let lawful : is_shape (a.shape ++ b.shape) ≡ true = search rules in
    let P : List ℕ → Type 0 = λ s. IsAnswerOf (answer_of s row.outcome row.kind) c.outer_elements.result in
    answered row.checks (answer_of row.shape row.outcome row.kind) c.outer_elements.result (lawful, tt)
    (subst P shapes
    (c.outer_elements.ensures row.outcome
    (λ place inside.
    let here : place < count_of a.shape * count_of b.shape = rw (shapes, joined.count a.shape b.shape) at inside in
    rw shapes (outer_place laws c.args.f a b place c.kind-2.ensures.lawful.len here))))
