use Rattle.std.proofs.Common.{◌≡◌, true, length, map, ap, ◌∙◌, sym, rules}
use Rattle.std.proofs.lemmas.List.{length-map}
use Rattle.std.proofs.lemmas.Simd.{map-map}
use Rattle.apl_array.specs.Array.{bit, truth_array, truth_element}
use Rattle.apl_answer.specs.Arguments.{is_numbers, number_of, numbers_of, size_of}
use Rattle.apl_struct.proofs.Counts.{truths_natural}
use Rattle.apl_struct.proofs.compressing.replicate_each.Goals as goal

pub returns-in-Truths : goal.returns-in-Truths
returns-in-Truths g c =
    let a = c.args.a.now in
    let truths = c.in-Truths.truths.now in
    let array : a ≡ truth_array a.shape truths = c.in-Truths.ensures.elements in
    let own : numbers_of a ≡ map bit truths = ap numbers_of array ∙ map-map number_of truth_element truths in
    let all : is_numbers a ≡ true = ap is_numbers array in
    let many : length truths ≡ size_of a = sym (length-map truths bit) ∙ sym (ap length own) ∙ length-map a.ravel number_of ∙ c.in-Truths.ensures.lawful.len in
    rw (all, own, truths_natural truths) (rw many at c.keep_ones.ensures)

pub returns-in-Some : goal.returns-in-Some
returns-in-Some g c =
    let a = c.args.a.now in
    let truths = c.as_slice.result.now in
    let numbers = c.in_ok-numbers.ensures.numbers in
    let made = rw c.in-Some.is at c.in_ok-truths.ensures in
    let own : numbers_of a ≡ map bit truths = numbers.1 ∙ sym made ∙ ap (map bit) (sym c.as_slice.ensures.value) in
    let many : length truths ≡ size_of a = sym (length-map truths bit) ∙ sym (ap length own) ∙ length-map a.ravel number_of ∙ c.in_ok-numbers.ensures.lawful.len in
    rw (numbers.0, own, truths_natural truths) (rw many at c.keep_ones-in-Some.ensures)

pub replicate_listed-requires-clause-each : goal.replicate_listed-requires-clause-each
replicate_listed-requires-clause-each g c = λ lifetimes outlive.
    let a = c.args.a.now in
    let own = c.in_ok-numbers.ensures.numbers.1 in
    sym (ap length own) ∙ length-map a.ravel number_of ∙ search rules

pub returns : goal.returns
returns g c =
    let a = c.args.a.now in
    let numbers = c.in_ok-numbers.ensures.numbers in
    let many : c.count.result ≡ size_of a = search rules in
    rw (numbers.0, numbers.1) (rw many at c.replicate_listed.ensures)
