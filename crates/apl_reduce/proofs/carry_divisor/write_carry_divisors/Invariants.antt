use Rattle.std.proofs.Common.{◌≡◌, ℕ, ◌+◌, ◌<◌, ◌≤◌, drop, length}
use Rattle.std.specs.Prelude.{slice_index_or}
use Rattle.apl_reduce.specs.declared.carry_divisor.CarryDivisor.TheVariants.{Nothing}
use Rattle.apl_reduce.specs.Carrying.{StandsFor}
use Rattle.apl_reduce.proofs.carry_divisor.write_carry_divisors.Given as goal

abbrev pub invariant-loop-k : goal.invariant-loop-k
invariant-loop-k l = record {
  all : StandsFor l.all (drop l.k l.radices);
  each : length l.behind ≡ length l.radices;
  stand : (j : ℕ) → l.k ≤ j → j < length l.radices → StandsFor (slice_index_or l.behind j Nothing) (drop (j + 1) l.radices);
}
