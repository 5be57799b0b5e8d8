use Rattle.std.proofs.Math.Seq.{take-append_seam}
use Rattle.std.proofs.Common.{◌≡◌, ◌<◌, ◌++◌, ◌∷◌, length, take, drop, map, ap, ◌∙◌, arith, slice_index_or}
use Rattle.apl_array.specs.Shape.{count_of}
use Rattle.apl_answer.specs.Arguments.{fill_of}
use Rattle.apl_answer.specs.Elements.{array_with}
use Rattle.apl_struct.specs.Numbering.{number_at, value_numbered}
use Rattle.apl_struct.proofs.Replacement.{numbered_element, list_answer}
use Rattle.apl_struct.proofs.replacing.written.Goals as goal

pub returns : goal.returns
returns g c =
    let f = g.T.ElementType.elem_of in
    let kind = g.T.ElementType.kind in
    let shape = c.args.shape in
    let law = c.places_match_index_lists.ensures in
    let elements = c.args.list.items in
    let values = c.args.values.now in
    let first = c.as_mut_slice.result.now in
    let room = c.write_lines.new.room in
    let fill = c.fill.result in
    let rest = drop (length room) elements in
    let len : c.args.list.len ≡ length room = omega (arith, c.as_mut_slice.ensures.len, c.write_lines.ensures.len) in
    let whole : length room ≡ count_of shape = omega (arith, len, c.requires.all) in
    let table : take c.args.list.len (room ++ rest) ≡ room = ap (λ n. take n (room ++ rest)) len ∙ take-append_seam room rest in
    list_answer c.answer_is_each_outcome.ensures.array law.below law.same_index f shape kind room fill
    (λ place. value_numbered (map f elements) (map f values) (fill_of kind) (number_at (c.args.choices.last ∷ c.args.choices.outer.now) c.args.choices.step place) place)
    c.array-array.result c.kind-kind.ensures.lawful (c.array-array.ensures ∙ ap (array_with f kind shape) table)
    (λ place inside.
    let there : place < length first = omega (arith, c.write_lines.ensures.len, whole, inside) in
    let from : slice_index_or first place fill ≡ slice_index_or elements place fill = ap (λ xs. slice_index_or xs place fill) c.as_mut_slice.ensures.value in
    ap f (c.write_lines.ensures.values place there)
    ∙ numbered_element f elements first values fill _ (number_at (c.args.choices.last ∷ c.args.choices.outer.now) c.args.choices.step place) place c.fill.ensures from)
