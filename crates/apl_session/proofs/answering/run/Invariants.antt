use Rattle.std.proofs.Common.{◌≡◌, ℕ, List}
use Rattle.std.specs.Io.KnownBytes.{Consumes}
use Rattle.apl_eval.specs.Workspace.{opening_workspace}
use Rattle.apl_session.specs.Lines.{IsUnbroken}
use Rattle.apl_session.specs.Progress.{Progress}
use Rattle.apl_session.specs.Step.{session_semantics}
use Rattle.apl_session.proofs.answering.run.Given as goal

-- the bytes given so far are answered, but for those that are held
abbrev pub invariant-takes : goal.invariant-takes
invariant-takes g l = record {
  given : (bytes : List ℕ) × Consumes (g.I.Source.coming l.initial.source) (g.I.Source.coming l.source) bytes
      × Progress session_semantics opening_workspace l.interpreter bytes l.held.items (g.S.Sink.taken l.initial.sink) (g.S.Sink.taken l.sink);
  unbroken : IsUnbroken l.held.items;
  source_sound : g.I.Source.failures l.source ≡ g.I.Source.failures l.initial.source;
  sink_sound : g.S.Sink.failures l.sink ≡ g.S.Sink.failures l.initial.sink;
}

abbrev pub decreases-takes : goal.decreases-takes
decreases-takes g l = g.I.Source.takes_left l.source
