use Rattle.std.proofs.Common.{◌∷◌, [], ◌++◌, sym, ◌∙◌, ap}
use Rattle.apl_grammar.proofs.Emitted.{emitted-some, emitted-none}
use Rattle.apl_grammar.proofs.partial_program.without_empty.Goals as goal

pub loop-place-preserved-in-Continue-branch-2 : goal.loop-place-preserved-in-Continue-branch-2
loop-place-preserved-in-Continue-branch-2 c =
    c.in_ok-push.ensures.items ∙ ap (λ xs. xs ++ c.in-Some-place.operation ∷ []) c.loop-place.invariant
    ∙ sym (emitted-some c.loop-place.yielded c.in-Some.place c.in-Some-place.operation c.in-Some-place.is)

pub loop-place-preserved : goal.loop-place-preserved
loop-place-preserved c =
    c.loop-place.invariant ∙ sym (emitted-none c.loop-place.yielded c.in-Some.place c.in_default.is)
