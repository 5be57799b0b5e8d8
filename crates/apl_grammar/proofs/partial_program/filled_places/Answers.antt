use Rattle.std.proofs.Common.{◌∷◌, [], ◌++◌, sym, ◌∙◌, ap, Some}
use Rattle.apl_grammar.proofs.Full.{full_append}
use Rattle.apl_grammar.proofs.partial_program.filled_places.Goals as goal

pub loop-operation-preserved : goal.loop-operation-preserved
loop-operation-preserved c =
    c.in_ok-push.ensures.items ∙ ap (λ xs. xs ++ Some c.in-Some.operation ∷ []) c.loop-operation.invariant
    ∙ sym (full_append c.loop-operation.yielded (c.in-Some.operation ∷ []))
