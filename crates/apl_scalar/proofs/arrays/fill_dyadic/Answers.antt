use Rattle.std.proofs.Common.{◌≡◌, ◌∙◌, ap}
use Rattle.apl_array.specs.Shape.{index_at}
use Rattle.apl_array.specs.Array.{element_at, element_in}
use Rattle.apl_scalar.specs.Extension.{source_index}
use Rattle.apl_scalar.specs.Scalar.{as_element, dyadic_of}
use Rattle.apl_scalar.proofs.Sources.{left_extended, own_source, first_source}
use Rattle.apl_scalar.proofs.arrays.fill_dyadic.Goals as goal

pub returns-in-None-Some : goal.returns-in-None-Some
returns-in-None-Some g c =
    let law = c.places_match_index_lists.ensures.same_place in
    let f = c.args.f in
    let a = c.args.left.now in
    let b = c.args.right.now in
    let shape = c.args.shape in
    let own = c.in-None-Some.ensures.element in
    let first = c.in-None-Some.ensures'.element in
    c.fill_with_right.ensures _ (λ place inside.
    ap (λ x. as_element (dyadic_of f x c.in-None-Some.y)) (own_source law a shape own place inside)
    ∙ ap (λ y. as_element (dyadic_of f (element_at a (source_index a.shape shape (index_at shape place))) y)) (first.1 ∙ first_source law b shape first.0 place))

pub returns-in-Some-default : goal.returns-in-Some-default
returns-in-Some-default g c =
    let law = c.places_match_index_lists.ensures.same_place in
    let f = c.args.f in
    let a = c.args.left.now in
    let b = c.args.right.now in
    let shape = c.args.shape in
    let first = c.in-Some-default.ensures.element in
    let own = (left_extended a.shape b.shape shape c.requires first.0).1 in
    c.fill_with_left.ensures _ (λ place inside.
    ap (λ x. as_element (dyadic_of f x (element_in b place))) (first.1 ∙ first_source law a shape first.0 place)
    ∙ ap (λ y. as_element (dyadic_of f (element_at a (source_index a.shape shape (index_at shape place))) y)) (own_source law b shape own place inside))
