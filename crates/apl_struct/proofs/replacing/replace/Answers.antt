use Rattle.std.proofs.Common.{map, Ok}
use Rattle.std.specs.Prelude.{option_copied}
use Rattle.apl_array.specs.Shape.{count_of}
use Rattle.apl_answer.specs.Pointwise.{answer_of}
use Rattle.apl_answer.specs.Rows.{first_failure_or}
use Rattle.apl_struct.specs.Indexing.{Slots, selected_shape, last_choice, replaced_element}
use Rattle.apl_struct.specs.Numbering.{replacement_checks}
use Rattle.apl_struct.proofs.replacing.replace.Goals as goal

pub returns-clause-ok : goal.returns-clause-ok
returns-clause-ok g c =
    let a = c.args.a.now in
    let b = c.args.b.now in
    let slots : Slots = map option_copied c.args.slots.now in
    let shape = selected_shape a.shape slots in
    let answer = answer_of a.shape (λ index. Ok (replaced_element a b index (last_choice c.args.origin slots shape index (count_of shape)))) a.kind in
    let judged = c.in_ok-slots.ensures in
    let values = rw (judged.0.1.shape_is, judged.0.0) at (c.in_ok-judge_values.ensures.1 answer) in
    let own = rw (c.as_slice.ensures.value, judged.0.1.shape_is, judged.0.0) at c.replace_selected.ensures.ok in
    rw (judged.1 (first_failure_or (replacement_checks a b shape) answer), values) own
