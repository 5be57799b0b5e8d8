use Rattle.std.proofs.Common.{◌≡◌, map, Err, inl, inr, ap, ◌∙◌, sym, rules}
use Rattle.std.proofs.lemmas.List.{length-map}
use Rattle.apl_array.specs.Axes.{place_number}
use Rattle.apl_struct.specs.Compressing.{as_vector}
use Rattle.apl_struct.specs.Held.{held_list}
use Rattle.apl_struct.proofs.Takings.{axis_of_vector}
use Rattle.apl_struct.proofs.Counts.{repeated_answer, repeated_taken, shape_refused, sum_refused}
use Rattle.apl_struct.proofs.compressing.replicate_listed.Goals as goal

pub returns-in_err-extent : goal.returns-in_err-extent
returns-in_err-extent g c =
    let n = c.args.axis_length in
    let result = c.from_residual.result in
    let axis = axis_of_vector n c.args.k c.args.b.now c.requires.axis in
    let is : result ≡ Err c.in_err-extent.field-0.0 = search rules in
    elim c.in_err-extent.ensures [
      | inl below ↦ rw below.1 (inl (is ∙ ap Err below.0))
      | inr past ↦ rw past.1 (sum_refused (as_vector n c.args.b.now) c.args.k (map place_number (held_list c.args.counts.now)) result axis past.2 (is ∙ ap Err past.0))
    ]

pub returns-in_err-shape : goal.returns-in_err-shape
returns-in_err-shape g c =
    let n = c.args.axis_length in
    let summed = c.in_ok-extent.ensures in
    rw summed.0
    (shape_refused (as_vector n c.args.b.now) c.args.k c.in_ok-extent.extent (map place_number (held_list c.args.counts.now)) c.in_err-shape.field-0.0 c.from_residual-in_err-shape.result
    summed.1 (search rules) (c.in_err-shape.ensures n))

pub returns-then-count-eq0 : goal.returns-then-count-eq0
returns-then-count-eq0 g c =
    let summed = c.in_ok-extent.ensures in
    let made = rw summed.1 at (c.in_ok-shape.ensures c.args.axis_length) in
    rw (summed.0, made.0, sym made.1) (c.empty.ensures _)

pub gather_along-requires-clause-taking : goal.gather_along-requires-clause-taking
gather_along-requires-clause-taking g c = λ lifetimes outlive.
    let counts = held_list c.args.counts.now in
    repeated_taken c.args.axis_length (map place_number counts) c.as_slice.result.now (length-map counts place_number ∙ c.requires.each) (c.as_slice.ensures.value ∙ c.in_ok-indexes.ensures)

pub returns : goal.returns
returns g c =
    let counts = held_list c.args.counts.now in
    let n = c.args.axis_length in
    rw c.in_ok-extent.ensures.0
    (repeated_answer (as_vector n c.args.b.now) c.args.k c.len.result (map place_number counts) c.as_slice.result.now c.gather_along.result
    (search rules) (c.as_slice.ensures.value ∙ c.in_ok-indexes.ensures) c.gather_along.ensures)
