use Rattle.std.proofs.Common.{◌≡◌, ◌≤◌, ◌-◌}
use Rattle.std.specs.Io.KnownBytes.{Appends}
use Rattle.apl_print.specs.Text.{blanks}
use Rattle.apl_print.proofs.reporting.put_blanks.Given as goal

-- all blanks but the rest were put
abbrev pub invariant-runs : goal.invariant-runs
invariant-runs g l = record {
  within : l.rest ≤ l.count;
  put : Appends (g.S.Sink.taken l.initial.sink) (g.S.Sink.taken l.sink) (blanks (l.count - l.rest));
  sound : g.S.Sink.failures l.sink ≡ g.S.Sink.failures l.initial.sink;
}

abbrev pub decreases-runs : goal.decreases-runs
decreases-runs g l = l.rest
