use Rattle.std.proofs.Common.{◌≡◌, Ok, map, slice_index_or, sym, ap, ◌∙◌, rules}
use Rattle.apl_answer.specs.Arguments.{fill_of}
use Rattle.apl_struct.specs.Joined.{joined_at}
use Rattle.apl_struct.specs.Joining.{joined_kind}
use Rattle.apl_struct.proofs.Joints.{joined_elements}
use Rattle.apl_struct.proofs.joining.join_elements.Goals as goal

pub returns : goal.returns
returns g c = λ element same.
    let a = c.args.a.now in
    let b = c.args.b.now in
    let f = g.T.ElementType.elem_of in
    let fill = c.fill-fill.result in
    let l = c.new.result in
    let r = c.new-2.result in
    let left = c.new.ensures in
    let right = c.new-2.ensures in
    let fill_is : f fill ≡ fill_of (joined_kind a b) = c.fill-fill.ensures ∙ ap fill_of (sym c.requires.kind) in
    let ravel_a : a.ravel ≡ map f l.elements.now = search rules in
    let ravel_b : b.ravel ≡ map f r.elements.now = search rules in
    let past_a : l.past ≡ slice_index_or l.elements.now 0 fill = left.past ∙ ap (λ xs. slice_index_or xs 0 fill) (sym left.elements) in
    let past_b : r.past ≡ slice_index_or r.elements.now 0 fill = right.past ∙ ap (λ xs. slice_index_or xs 0 fill) (sym right.elements) in
    rw c.requires.kind
    (c.fill_array.ensures (λ index. Ok (element index))
    (λ place inside.
    rw c.new-kernel.ensures
    (ap Ok (sym (joined_elements f a b l.elements.now r.elements.now l.past r.past fill l.length r.length place fill_is ravel_a ravel_b past_a past_b)
    ∙ ap (λ n. joined_at a b n r.length place) left.length ∙ ap (λ n. joined_at a b c.args.seam.left n place) right.length ∙ same place inside))))
