use Rattle.std.proofs.Common.{length, map, ◌∙◌, rules}
use Rattle.std.proofs.lemmas.List.{length-map}
use Rattle.apl_array.specs.Array.{bit}
use Rattle.apl_array.specs.Axes.{place_number}
use Rattle.apl_struct.specs.Compressing.{as_vector}
use Rattle.apl_struct.proofs.Takings.{axis_of_vector}
use Rattle.apl_struct.proofs.Counts.{ones_answer, repeated_answer, repeated_taken}
use Rattle.apl_struct.proofs.compressing.keep_ones.Goals as goal

pub gather_along-requires-clause-taking : goal.gather_along-requires-clause-taking
gather_along-requires-clause-taking g c = λ lifetimes outlive.
    let truths = c.args.truths.now in
    repeated_taken (length truths) (map place_number (map bit truths)) c.as_slice.result.now (length-map (map bit truths) place_number ∙ length-map truths bit)
    (c.as_slice.ensures.value ∙ c.in_ok-indexes.ensures)

pub returns-then-vector_rank-gt1 : goal.returns-then-vector_rank-gt1
returns-then-vector_rank-gt1 g c =
    let truths = c.args.truths.now in
    repeated_answer (as_vector (length truths) c.args.b.now) c.args.k c.len.result (map place_number (map bit truths)) c.as_slice.result.now c.gather_along.result
    (search rules) (c.as_slice.ensures.value ∙ c.in_ok-indexes.ensures) c.gather_along.ensures

pub returns : goal.returns
returns g c =
    let truths = c.args.truths.now in
    let n = length truths in
    ones_answer (as_vector n c.args.b.now) c.args.k c.in_ok-before.count truths c.gather_along-2.result (axis_of_vector n c.args.k c.args.b.now c.requires.axis) c.in_ok-before.ensures.1 c.gather_along-2.ensures
