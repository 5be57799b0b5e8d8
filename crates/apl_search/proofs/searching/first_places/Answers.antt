use Rattle.std.proofs.Common.{◌≡◌, ◌+◌, ◌<◌, ℕ, pos, List, Ok, length, get_or, ap, sym, subst, ◌∙◌, arith, rules}
use Rattle.apl_array.specs.declared.array.Elem.TheVariants.{Int}
use Rattle.apl_array.specs.declared.array.Kind.TheVariants.{Number}
use Rattle.apl_array.specs.Array.{element_at, element_in}
use Rattle.apl_array.specs.Axes.{origin_number}
use Rattle.apl_array.specs.Shape.{count_of, index_at}
use Rattle.apl_answer.specs.Pointwise.{answer_of, IsAnswerOf}
use Rattle.apl_search.specs.Finding.{first_place, found_outcome}
use Rattle.apl_search.specs.Keys.{keys_in}
use Rattle.apl_search.specs.Tables.{place_of}
use Rattle.apl_search.proofs.ByKeys.{keys_long, first_by_keys}
use Rattle.apl_search.proofs.Origins.{origin_cast}
use Rattle.apl_search.proofs.searching.first_places.Goals as goal

pub returns : goal.returns
returns g c =
    let a = c.args.a.now in
    let b = c.args.b.now in
    let list = c.elements.result in
    let elements = c.elements-elements.result in
    let shape = c.in_ok-shape.shape in
    let shapes : shape ≡ b.shape = search rules in
    let P : List ℕ → Type 0 = λ s. IsAnswerOf (answer_of s (found_outcome a.ravel b c.args.origin) Number) c.fill_array.result in
    subst P shapes
    (c.fill_array.ensures _ (λ place inside.
    let here : place < count_of b.shape = rw shapes at inside in
    let within : place < length (keys_in elements) = omega (arith, here, keys_long b elements c.elements-elements.ensures.elements, c.elements-elements.ensures.lawful.len) in
    let at : element_in b place ≡ element_at b (index_at shape place) =
    ap (element_in b) (sym (c.places_match_index_lists.ensures.same_place b.shape place here)) ∙ ap (λ s. element_at b (index_at s place)) (sym shapes) in
    let first : place_of (keys_in list) (get_or (keys_in elements) place (pos 0)) ≡ first_place a.ravel (element_at b (index_at shape place)) =
    sym (first_by_keys a b list elements c.elements.ensures.elements c.elements-elements.ensures.elements c.requires place within) ∙ ap (first_place a.ravel) at in
    rw (c.in_ok-list.ensures, origin_cast c.args.origin c.number-first.result c.number-first.ensures.value)
    (ap (λ p. Ok (Int (pos (origin_number c.args.origin + p)))) first)))
