use Rattle.std.proofs.Common.{◌≡◌, ◌<◌, ℕ, pos, List, Ok, length, get_or, ap, sym, subst, ◌∙◌, arith, rules}
use Rattle.std.specs.List.{list_any}
use Rattle.apl_array.specs.declared.array.Elem.TheVariants.{Int}
use Rattle.apl_array.specs.declared.array.Kind.TheVariants.{Number}
use Rattle.apl_array.specs.Array.{element_at, element_in}
use Rattle.apl_array.specs.Shape.{count_of, index_at}
use Rattle.apl_answer.specs.Pointwise.{answer_of, IsAnswerOf}
use Rattle.apl_search.specs.Finding.{first_place, member_outcome}
use Rattle.apl_search.specs.Keys.{keys_in}
use Rattle.apl_search.specs.Searching.{is_same_element}
use Rattle.apl_search.specs.Tables.{place_of}
use Rattle.apl_search.proofs.ByKeys.{keys_long, first_by_keys}
use Rattle.apl_search.proofs.Searches.{any_is_found, bit_is}
use Rattle.apl_search.proofs.searching.membership.Goals as goal

pub returns : goal.returns
returns g c =
    let a = c.args.a.now in
    let b = c.args.b.now in
    let list = c.elements.result in
    let elements = c.elements-elements.result in
    let shape = c.in_ok-shape.shape in
    let shapes : shape ≡ a.shape = search rules in
    let P : List ℕ → Type 0 = λ s. IsAnswerOf (answer_of s (member_outcome a b.ravel) Number) c.fill_array.result in
    subst P shapes
    (c.fill_array.ensures _ (λ place inside.
    let here : place < count_of a.shape = rw shapes at inside in
    let within : place < length (keys_in elements) = omega (arith, here, keys_long a elements c.elements-elements.ensures.elements, c.elements-elements.ensures.lawful.len) in
    let x = element_at a (index_at shape place) in
    let at : element_in a place ≡ x =
    ap (element_in a) (sym (c.places_match_index_lists.ensures.same_place a.shape place here)) ∙ ap (λ s. element_at a (index_at s place)) (sym shapes) in
    let first : place_of (keys_in list) (get_or (keys_in elements) place (pos 0)) ≡ first_place b.ravel x =
    sym (first_by_keys b a list elements c.elements.ensures.elements c.elements-elements.ensures.elements (sym c.requires) place within) ∙ ap (first_place b.ravel) at in
    let any = any_is_found (λ y. is_same_element y x) b.ravel in
    let found = bit_is (list_any (λ y. is_same_element y x) b.ravel) in
    rw (c.in_ok-list.ensures, first, keys_long b list c.elements.ensures.elements) (rw (sym any) (ap (λ z. Ok (Int z)) found))))
