use Rattle.std.proofs.Common.{◌≡◌, false, map, refl, ap, sym, ◌∙◌, rules}
use Rattle.std.specs.Prelude.{◌&&◌}
use Rattle.std.specs.List.{list_all}
use Rattle.std.proofs.lemmas.Simd.{map-map}
use Rattle.apl_array.specs.Array.{bit, truth_array, truth_element}
use Rattle.apl_answer.specs.Arguments.{is_bit, is_numbers, number_of, numbers_of}
use Rattle.apl_struct.proofs.Counts.{expand_answer, expand_refused}
use Rattle.apl_struct.proofs.compressing.expand.Goals as goal

pub returns-in-Truths : goal.returns-in-Truths
returns-in-Truths g c =
    let a = c.args.a.now in
    let truths = c.in-Truths.truths.now in
    let array : a ≡ truth_array a.shape truths = c.in-Truths.ensures.elements in
    let own : numbers_of a ≡ map bit truths = ap numbers_of array ∙ map-map number_of truth_element truths in
    expand_answer a c.args.b.now c.args.axis c.vector_rank.result c.in-Some.k truths c.expand_by.result c.vector_rank.ensures.rank c.in-Some.ensures.0 c.in-Some.ensures.1 (search rules)
    (ap is_numbers array) own c.shape.ensures.lawful.len (c.expand_by.ensures _ refl)

pub returns-in-Some-2 : goal.returns-in-Some-2
returns-in-Some-2 g c =
    let a = c.args.a.now in
    let truths = c.as_slice.result.now in
    let numbers = c.in_ok-numbers.ensures.numbers in
    let made = rw c.in-Some-2.is at c.in_ok-truths.ensures in
    let own : numbers_of a ≡ map bit truths = numbers.1 ∙ sym made ∙ ap (map bit) (sym c.as_slice.ensures.value) in
    expand_answer a c.args.b.now c.args.axis c.vector_rank.result c.in-Some.k truths c.expand_by-in-Some-2.result c.vector_rank.ensures.rank c.in-Some.ensures.0 c.in-Some.ensures.1 (search rules)
    numbers.0 own c.shape.ensures.lawful.len (c.expand_by-in-Some-2.ensures _ refl)

pub returns : goal.returns
returns g c =
    let a = c.args.a.now in
    let numbers = c.in_ok-numbers.ensures.numbers in
    let made = rw c.in-None.is at c.in_ok-truths.ensures in
    let none : (is_numbers a && list_all is_bit (numbers_of a)) ≡ false = rw (numbers.1, made, numbers.0) refl in
    expand_refused a c.args.b.now c.args.axis c.vector_rank.result c.vector_rank.ensures.rank c.in-Some.ensures.0 (search rules) none
