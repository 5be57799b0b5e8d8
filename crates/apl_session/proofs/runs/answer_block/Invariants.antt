use Rattle.std.proofs.Common.{◌≡◌, ◌≤◌, ◌++◌, length}
use Rattle.apl_session.specs.Lines.{IsUnbroken}
use Rattle.apl_session.specs.Progress.{Progress}
use Rattle.apl_session.specs.Step.{session_semantics}
use Rattle.apl_session.proofs.runs.answer_block.Given as goal

abbrev pub invariant-lines : goal.invariant-lines
invariant-lines g l = record {
  progress : Progress session_semantics l.initial.interpreter l.interpreter (l.initial.held.items ++ l.block) (l.held.items ++ l.rest)
      (g.S.Sink.taken l.initial.sink) (g.S.Sink.taken l.sink);
  unbroken : IsUnbroken l.held.items;
  few : length l.rest ≤ length l.block;
  sound : g.S.Sink.failures l.sink ≡ g.S.Sink.failures l.initial.sink;
}

abbrev pub decreases-lines : goal.decreases-lines
decreases-lines g l = length l.rest
