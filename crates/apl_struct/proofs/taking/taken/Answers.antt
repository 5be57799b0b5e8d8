use Rattle.std.proofs.Common.{◌≡◌, true, map, ap, sym, ◌∙◌, arith, rules}
use Rattle.std.specs.Prelude.{nat_abs}
use Rattle.apl_array.specs.Shape.{is_shape, count_of, index_at}
use Rattle.apl_answer.specs.Arguments.{size_of}
use Rattle.apl_struct.specs.Building.{reshape_source}
use Rattle.apl_struct.specs.Gathering.{element_or_fill}
use Rattle.apl_struct.specs.Shaped.{with_shape}
use Rattle.apl_struct.proofs.Elements.{filled_past}
use Rattle.apl_struct.proofs.Taken.{taken_none_of_empty, taken_element}
use Rattle.apl_struct.proofs.taking.taken.Given.{Over}
use Rattle.apl_struct.proofs.taking.taken.Goals as goal
use Rattle.apl_struct.proofs.taking.taken.Goals.{After-as_slice, then-count-eq0-via-then-count-eq0, then-count-eq0-via-else-count-eq0+then-count-eq0-2}

lengths : (g : Over) (c : After-as_slice g) → c.as_slice.result.now ≡ map nat_abs c.args.numbers.now
lengths g c =
    let items : c.in_ok-lengths.lengths.items ≡ map nat_abs c.args.numbers.now = search rules in
    c.as_slice.ensures.value ∙ items

pub returns-in_err-shape : goal.returns-in_err-shape
returns-in_err-shape g c = λ element same. rw (← lengths g (goal.at.returns-in_err-shape g c).After-as_slice) (search rules)

pub returns-then-count-eq0 : goal.returns-then-count-eq0
returns-then-count-eq0 g c = λ element same.
    let b = c.args.b.now in
    let argument = c.args.argument.now in
    let numbers = c.args.numbers.now in
    let law = c.places_match_index_lists.ensures in
    let slice = lengths g (goal.at.returns-then-count-eq0 g c).After-as_slice in
    let is : c.in_ok-shape.shape ≡ map nat_abs numbers = c.in_ok-shape.ensures.value ∙ slice in
    let passes : is_shape (map nat_abs numbers) ≡ true = ap is_shape (sym slice) ∙ c.in_ok-shape.ensures.test in
    rw passes ((rw is at c.repeat.ensures) element (λ place inside.
    let none : count_of argument ≡ 0 = elim c.then-count-eq0.branch [
      | then-count-eq0-via-then-count-eq0 w ↦ absurd (omega (arith, inside, w.if-count-eq0.true, c.count.ensures.count, ap count_of is))
      | then-count-eq0-via-else-count-eq0+then-count-eq0-2 w ↦ omega (arith, w.if-count-eq0-2.true, w.count-else-count-eq0.ensures.count)
    ] in
    let index = index_at (map nat_abs numbers) place in
    let lawful = law.lawful (map nat_abs numbers) place inside in
    filled_past b (reshape_source (size_of b) place) c.kind-kind.ensures.lawful (sym c.requires.count ∙ none)
    ∙ sym (ap (element_or_fill (with_shape argument b)) (taken_none_of_empty law.below argument numbers index c.requires.len lawful none)) ∙ same index lawful))

pub returns : goal.returns
returns g c = λ element same.
    let b = c.args.b.now in
    let argument = c.args.argument.now in
    let numbers = c.args.numbers.now in
    let law = c.places_match_index_lists.ensures in
    let slice = lengths g (goal.at.returns g c).After-as_slice in
    let is : c.in_ok-shape.shape ≡ map nat_abs numbers = c.in_ok-shape.ensures.value ∙ slice in
    let passes : is_shape (map nat_abs numbers) ≡ true = ap is_shape (sym slice) ∙ c.in_ok-shape.ensures.test in
    rw passes ((rw is at c.gather.ensures) element (λ place inside.
    let index = index_at (map nat_abs numbers) place in
    let lawful = law.lawful (map nat_abs numbers) place inside in
    rw (c.in_ok-walk.ensures.place place)
    (taken_element law.below argument numbers index c.requires.len lawful b c.kind-kind.ensures.lawful c.count-else-count-eq0.ensures.lawful c.requires.count ∙ same index lawful)))
