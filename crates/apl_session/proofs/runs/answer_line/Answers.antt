use Rattle.std.proofs.Common.{◌≡◌, [], ◌++◌, Ok, subst, ap, sym, ◌∙◌, arith, eqb-true}
use Rattle.std.proofs.lemmas.Grind.{common_steps}
use Rattle.std.proofs.lemmas.List.{nil_from_length}
use Rattle.apl_session.specs.Lines.{IsUnbroken}
use Rattle.apl_session.specs.LineAnswer.{IsLineAnswered}
use Rattle.apl_session.specs.Step.{session_semantics}
use Rattle.apl_session.proofs.runs.answer_line.Goals as goal

pub answer-requires-clause-unbroken : goal.answer-requires-clause-unbroken
answer-requires-clause-unbroken g c =
    let no_bytes = eqb-true _ _ (sym c.is_empty.ensures ∙ c.if-is_empty.true) in
    let none : c.args.held.now.items ≡ [] = nil_from_length c.args.held.now.items (omega (arith, no_bytes, c.args.held.now.ok.0)) in
    λ lifetimes outlives. subst IsUnbroken (ap (λ held. held ++ c.args.end.now) none) c.requires

pub returns-then-is_empty-clause-answered : goal.returns-then-is_empty-clause-answered
returns-then-is_empty-clause-answered g c ok =
    let no_bytes = eqb-true _ _ (sym c.is_empty.ensures ∙ c.if-is_empty.true) in
    let none : c.args.held.now.items ≡ [] = nil_from_length c.args.held.now.items (omega (arith, no_bytes, c.args.held.now.ok.0)) in
    subst (λ held. IsLineAnswered session_semantics c.args.interpreter.now c.answer.new.self (held ++ c.args.end.now) (g.S.Sink.taken c.args.sink.now) (g.S.Sink.taken c.answer.new.sink) c.answer.result) (sym none) c.answer.ensures.answered

pub returns-clause-answered : goal.returns-clause-answered
returns-clause-answered g c ok =
    let line : c.as_slice.result.now ≡ c.args.held.now.items ++ c.args.end.now = grind (arith, common_steps) in
    subst (λ line. IsLineAnswered session_semantics c.args.interpreter.now c.answer-2.new.self line (g.S.Sink.taken c.args.sink.now) (g.S.Sink.taken c.answer-2.new.sink) (Ok c.in_ok-next.next)) line c.in_ok-next.ensures.answered
