use Rattle.std.proofs.Common.{◌<◌, ap, ◌∙◌, arith}
use Rattle.apl_array.specs.Shape.{count_of, index_at}
use Rattle.apl_array.specs.Transposition.{source_index}
use Rattle.apl_struct.proofs.Elements.{filled_within}
use Rattle.apl_struct.proofs.Permuted.{axes_below}
use Rattle.apl_struct.proofs.permuting.transposed.Goals as goal

pub returns-then-count-eq0 : goal.returns-then-count-eq0
returns-then-count-eq0 g c = λ element same. c.empty.ensures element

pub transposed_walk-requires-clause-argument_some : goal.transposed_walk-requires-clause-argument_some
transposed_walk-requires-clause-argument_some g c =
    let b = c.args.b.now in
    let shape = c.args.shape in
    let axes = c.args.axes.now in
    let inside : 0 < count_of shape = omega arith in
    let lawful = c.places_match_index_lists.ensures.lawful shape 0 inside in
    let source = c.transposed_index_has_place.ensures.lawful b.shape axes shape (index_at shape 0) c.requires.into lawful in
    let below = c.places_match_index_lists.ensures.below b.shape (source_index axes (index_at shape 0)) source in
    omega (arith, below, ap count_of c.shape-2.ensures.shape)

pub returns : goal.returns
returns g c = λ element same.
    let b = c.args.b.now in
    let shape = c.args.shape in
    let axes = c.args.axes.now in
    let into = c.requires.into in
    c.gather.ensures element
    (λ place inside.
    let index = index_at shape place in
    let lawful = c.places_match_index_lists.ensures.lawful shape place inside in
    let source = c.transposed_index_has_place.ensures.lawful b.shape axes shape index into lawful in
    let counted = c.transposed_index_has_place.ensures.place b.shape axes index (axes_below b.shape axes shape index into lawful.len) in
    rw (c.in_ok-walk.ensures.place place, c.shape-2.ensures.shape, ← lawful.len, ← counted)
    (filled_within c.places_match_index_lists.ensures.below b (source_index axes index) c.kind-kind.ensures.lawful source ∙ same index lawful))
