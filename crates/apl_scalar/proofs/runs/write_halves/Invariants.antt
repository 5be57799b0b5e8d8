use Rattle.std.proofs.Common.{◌≡◌, ℕ, ◌*◌, length}
use Rattle.apl_scalar.specs.Runs.{HasPart}
use Rattle.apl_scalar.proofs.runs.write_halves.Given as goal

abbrev pub invariant-loop-block : goal.invariant-loop-block
invariant-loop-block g l =
    let outcome = λ (place : ℕ). g.H.Held.held (g.P.Results.outcome l.results place) in
    record {
      first : l.all_doubts ≡ 0 → HasPart outcome l.from 0 (l.block * l.size) l.room;
      second : l.all_doubts ≡ 0 → HasPart outcome l.from l.half (l.block * l.size) l.room;
      len : length l.room ≡ length l.initial.room;
    }
