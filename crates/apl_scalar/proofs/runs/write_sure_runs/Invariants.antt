use Rattle.std.proofs.Common.{◌≡◌, ◌+◌, ◌-◌, ◌<◌, ◌≤◌, length}
use Rattle.apl_pool.specs.Runs.{AreWritten}
use Rattle.apl_scalar.proofs.runs.write_sure_runs.Given as goal

abbrev pub invariant-loop-done : goal.invariant-loop-done
invariant-loop-done g l = record {
  within : l.done ≤ l.count;
  some : 0 < l.longest;
  values : AreWritten (λ place. g.H.Held.held (g.P.Results.outcome l.results place)) l.from (l.from + l.done) l.room;
  len : length l.room ≡ length l.initial.room;
}

abbrev pub decreases-loop-done : goal.decreases-loop-done
decreases-loop-done g l = l.count - l.done
