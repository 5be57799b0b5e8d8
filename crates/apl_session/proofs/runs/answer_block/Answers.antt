use Rattle.std.proofs.Common.{◌≢◌, ◌<◌, ◌++◌, length, Ok, refl, ap, ◌∙◌, arith}
use Rattle.std.proofs.lemmas.List.Elements.{All-append, All-nil}
use Rattle.apl_print.specs.Text.{line_feed}
use Rattle.apl_session.specs.declared.interpreter.Next.TheVariants.{Go, End}
use Rattle.apl_session.specs.Step.{session_semantics}
use Rattle.apl_session.proofs.RunLemmas.{none_yet, few_after, block_goes_on, block_ends, block_fails, end_unanswered, answered_as}
use Rattle.apl_session.proofs.runs.answer_block.Goals as goal

pub lines-init : goal.lines-init
lines-init g c = record {
  progress = none_yet session_semantics c.args.interpreter.now (c.args.held.now.items ++ c.args.block.now) (g.S.Sink.taken c.args.sink.now);
  unbroken = c.requires;
  few = omega arith;
  sound = refl;
}

pub lines-preserved : goal.lines-preserved
lines-preserved g c =
    let split = c.in-Some.ensures.split in
    let unbroken = All-append (λ byte. byte ≢ line_feed) c.lines.held.items c.in-Some.line.now c.lines.invariant.unbroken split.1 in
    let answered = answered_as session_semantics c.lines.interpreter _ (c.lines.held.items ++ c.in-Some.line.now) _ _ _ (Ok Go) (c.in-Ok-Go.is ∙ ap Ok c.in-Ok-Go.field-0-is) (λ e. cc) c.answer_line.ensures.answered in
    record {
      progress = rw c.in-Ok-Go.ensures.emptied (block_goes_on session_semantics _ _ _ _ _ _ _ _ _ _ _ split.0 unbroken c.lines.invariant.progress answered);
      unbroken = rw c.in-Ok-Go.ensures.emptied (All-nil (λ byte. byte ≢ line_feed));
      few = few_after session_semantics _ _ _ _ split.0 c.lines.invariant.few;
      sound = c.in-Ok-Go.ensures.sound ∙ c.lines.invariant.sound;
    }

pub returns-in-Ok-End-clause-outcome : goal.returns-in-Ok-End-clause-outcome
returns-in-Ok-End-clause-outcome g c =
    let split = c.in-Some.ensures.split in
    let unbroken = All-append (λ byte. byte ≢ line_feed) c.lines.held.items c.in-Some.line.now c.lines.invariant.unbroken split.1 in
    let answered = answered_as session_semantics c.lines.interpreter _ (c.lines.held.items ++ c.in-Some.line.now) _ _ _ (Ok End) (c.in-Ok-End.is ∙ ap Ok c.in-Ok-End.field-0-is) (λ e. cc) c.answer_line.ensures.answered in
    block_ends session_semantics _ _ _ _ _ _ _ _ _ _ _ split.0 unbroken c.lines.invariant.progress answered

pub returns-in-Err-clause-outcome : goal.returns-in-Err-clause-outcome
returns-in-Err-clause-outcome g c =
    let split = c.in-Some.ensures.split in
    let unbroken = All-append (λ byte. byte ≢ line_feed) c.lines.held.items c.in-Some.line.now c.lines.invariant.unbroken split.1 in
    block_fails session_semantics c.in-Err.fault _ _ _ _ _ _ _ _ _ c.answer_line.new.held.items _ _ _ split.0 unbroken c.lines.invariant.few c.lines.invariant.progress c.in-Err.ensures.answered
    (λ e. let same = c.in-Err.ensures.memory e in (same.0, ap g.S.Sink.taken same.1, same.2))

pub returns-in-Err-hold-clause-outcome : goal.returns-in-Err-hold-clause-outcome
returns-in-Err-hold-clause-outcome g c =
    let some : 0 < length c.lines.rest.now = c.in-Err-hold.ensures.some in
    end_unanswered session_semantics _ _ _ _ c.lines.held.items c.lines.rest.now _ _ c.lines.invariant.unbroken c.in_default.ensures.none some c.lines.invariant.progress
