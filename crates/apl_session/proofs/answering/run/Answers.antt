use Rattle.std.proofs.Common.{◌≡◌, ◌<◌, [], length, Ok, Err, refl, sym, ◌∙◌, subst, arith, eqb-true, length-take, ℕ}
use Rattle.std.proofs.lemmas.Grind.{common_steps}
use Rattle.std.proofs.lemmas.List.{nil_from_length}
use Rattle.std.proofs.lemmas.List.Elements.{All-nil}
use Rattle.std.proofs.KnownBytes.{Consumes-nil}
use Rattle.apl_eval.specs.Workspace.{opening_workspace}
use Rattle.apl_session.specs.LineAnswer.{IsLineAnswered}
use Rattle.apl_session.specs.declared.interpreter.RunFault.TheVariants.{Write, Memory}
use Rattle.apl_session.specs.Step.{session_semantics}
use Rattle.apl_session.proofs.RunLemmas.{none_yet, all_of_last, front_of_last, all_of_none}
use Rattle.apl_session.proofs.SourceLemmas.{nothing_more, takes_more, ends_within, cut_within, memory_within, read_fails, ends_after, cut_after}
use Rattle.apl_session.proofs.answering.run.Goals as goal

pub takes-init : goal.takes-init
takes-init g c = record {
  given = (
    [],
    Consumes-nil (g.I.Source.coming c.args.source.now),
    rw (c.new-held.ensures.items, c.new-interpreter.ensures) (none_yet session_semantics opening_workspace [] (g.S.Sink.taken c.args.sink.now)),
  );
  unbroken = rw c.new-held.ensures.items (All-nil (λ byte. byte ≡ 10 → ⊥));
  source_sound = refl;
  sink_sound = refl;
}

pub returns-in-Err-clause-read : goal.returns-in-Err-clause-read
returns-in-Err-clause-read g c e =
    let given = c.takes.invariant.given in
    read_fails session_semantics _ _ _ _ _ given.0 c.takes.held.items _ _ given.1 c.in-Err.ensures.nothing c.takes.invariant.unbroken given.2

pub takes-preserved : goal.takes-preserved
takes-preserved g c =
    let given = c.takes.invariant.given in
    let outcome = rw c.in-Ok-Go.field-0-is at c.in-Ok-Go.ensures.outcome in
    let other : c.answer_block.result ≡ Err Write → ⊥ = λ e. let both = sym c.in-Ok-Go.is ∙ e in cc in
    record {
      given = takes_more session_semantics _ _ _ _ _ _ given.0 c.takes.held.items _ _ _ _ _ given.1 c.in-Ok.ensures.bytes given.2 outcome.0;
      unbroken = outcome.1;
      source_sound = c.in-Ok.ensures.failures ∙ c.takes.invariant.source_sound;
      sink_sound = c.answer_block.ensures.sound other ∙ c.takes.invariant.sink_sound;
    }

pub returns-in-Ok-End-clause-ok : goal.returns-in-Ok-End-clause-ok
returns-in-Ok-End-clause-ok g c =
    let given = c.takes.invariant.given in
    let outcome = rw c.in-Ok-End.field-0-is at c.in-Ok-End.ensures.outcome in
    ends_within session_semantics _ _ _ _ _ given.0 c.takes.held.items _ _ _ _ given.1 c.in-Ok.ensures.bytes given.2 outcome

pub returns-in-Err-answer_block-clause-write : goal.returns-in-Err-answer_block-clause-write
returns-in-Err-answer_block-clause-write g c e =
    let given = c.takes.invariant.given in
    let is : c.in-Err-answer_block.fault ≡ Write = cc in
    let outcome = rw is at c.in-Err-answer_block.ensures.outcome in
    cut_within session_semantics _ _ _ _ _ given.0 c.takes.held.items _ _ _ _ given.1 c.in-Ok.ensures.bytes given.2 outcome

pub returns-in-Err-answer_block-clause-memory : goal.returns-in-Err-answer_block-clause-memory
returns-in-Err-answer_block-clause-memory g c e =
    let given = c.takes.invariant.given in
    let is : c.in-Err-answer_block.fault ≡ Memory = cc in
    let outcome = rw is at c.in-Err-answer_block.ensures.outcome in
    memory_within session_semantics _ _ _ _ _ _ _ given.0 c.takes.held.items _ _ _ _ given.1 c.in-Ok.ensures.bytes given.2 outcome (omega (arith, length-take {A = ℕ}))

pub returns-then-is_empty-clause-ok : goal.returns-then-is_empty-clause-ok
returns-then-is_empty-clause-ok g c =
    let given = c.takes.invariant.given in
    let gave = nothing_more _ _ _ given.0 c.take.new.room c.in-Ok.n c.if-n-eq0.true given.1 c.in-Ok.ensures.bytes in
    let room : 0 < length c.take.new.room = omega arith in
    let no_bytes = eqb-true _ _ (sym c.is_empty.ensures ∙ c.if-is_empty.true) in
    let none : c.takes.held.items ≡ [] = nil_from_length c.takes.held.items (omega (arith, no_bytes, c.takes.held.ok.0)) in
    ends_after session_semantics _ _ _ _ given.0 c.takes.held.items _ _ _ gave (c.in-Ok.ensures.end c.if-n-eq0.true room) given.2
    (rw none (all_of_none session_semantics c.takes.interpreter (g.S.Sink.taken c.takes.sink)))

pub returns-in-Ok-answer-clause-ok : goal.returns-in-Ok-answer-clause-ok
returns-in-Ok-answer-clause-ok g c =
    let given = c.takes.invariant.given in
    let gave = nothing_more _ _ _ given.0 c.take.new.room c.in-Ok.n c.if-n-eq0.true given.1 c.in-Ok.ensures.bytes in
    let room : 0 < length c.take.new.room = omega arith in
    let some : 0 < length c.takes.held.items = grind (arith, common_steps) in
    let answered = subst (λ line. IsLineAnswered session_semantics c.takes.interpreter c.answer.new.self line (g.S.Sink.taken c.takes.sink) (g.S.Sink.taken c.answer.new.sink) (Ok c.in-Ok-answer.field-0))
    c.as_slice.ensures.value c.in-Ok-answer.ensures.answered in
    ends_after session_semantics _ _ _ _ given.0 c.takes.held.items _ _ _ gave (c.in-Ok.ensures.end c.if-n-eq0.true room) given.2
    (all_of_last session_semantics c.in-Ok-answer.field-0 _ _ c.takes.held.items _ _ c.takes.invariant.unbroken some answered)

pub returns-clause-write : goal.returns-clause-write
returns-clause-write g c e =
    let given = c.takes.invariant.given in
    let gave = nothing_more _ _ _ given.0 c.take.new.room c.in-Ok.n c.if-n-eq0.true given.1 c.in-Ok.ensures.bytes in
    let room : 0 < length c.take.new.room = omega arith in
    let some : 0 < length c.takes.held.items = grind (arith, common_steps) in
    let is : c.in-Err-answer.fault ≡ Write = cc in
    let answered = subst (λ line. IsLineAnswered session_semantics c.takes.interpreter c.answer.new.self line (g.S.Sink.taken c.takes.sink) (g.S.Sink.taken c.answer.new.sink) (Err c.in-Err-answer.fault))
    c.as_slice.ensures.value c.in-Err-answer.ensures.answered in
    cut_after session_semantics _ _ _ _ given.0 c.takes.held.items _ _ _ gave (c.in-Ok.ensures.end c.if-n-eq0.true room) given.2
    (front_of_last session_semantics _ _ c.takes.held.items _ _ c.takes.invariant.unbroken some (rw is at answered))
