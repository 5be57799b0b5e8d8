use Rattle.std.proofs.Common.{◌≡◌, ℕ, List, ◌++◌, length}
use Rattle.std.specs.Io.KnownBytes.{Appends}
use Rattle.apl_print.proofs.sinks.put_all.Given as goal

-- the sink took a front of the bytes, and the rest is left
abbrev pub invariant-puts : goal.invariant-puts
invariant-puts g l = (front : List ℕ) × (l.bytes ≡ front ++ l.rest)
    × Appends (g.S.Sink.taken l.initial.sink) (g.S.Sink.taken l.sink) front
    × (g.S.Sink.failures l.sink ≡ g.S.Sink.failures l.initial.sink)

abbrev pub decreases-puts : goal.decreases-puts
decreases-puts g l = length l.rest
