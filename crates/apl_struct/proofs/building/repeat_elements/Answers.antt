use Rattle.std.proofs.Common.{◌≡◌, Ok, length, sym, ap, ◌∙◌, arith}
use Rattle.std.proofs.lemmas.List.{length-map}
use Rattle.apl_answer.specs.Arguments.{fill_of, size_of}
use Rattle.apl_struct.proofs.Elements.{element_round}
use Rattle.apl_struct.proofs.building.repeat_elements.Goals as goal

pub returns : goal.returns
returns g c = λ element same.
    let b = c.args.b.now in
    let xs = c.args.elements.now in
    let f = g.T.ElementType.elem_of in
    let round = c.new.result in
    let size : length xs ≡ size_of b = sym (length-map xs f) ∙ ap length (sym c.requires.ravel) ∙ c.shape.ensures.lawful.len in
    let fill_is : f c.fill.result ≡ fill_of b.kind = c.fill.ensures ∙ ap fill_of (sym c.requires.kind) in
    rw c.requires.kind
    (c.fill_array.ensures (λ index. Ok (element index))
    (λ place inside.
    rw (c.new-kernel.ensures, c.new.ensures.elements)
    (ap Ok (element_round f b xs round.past c.fill.result round.extent place c.requires.ravel size fill_is
    (c.new.ensures.values place (omega (arith, inside, c.count.ensures.count))) ∙ same place inside))))
