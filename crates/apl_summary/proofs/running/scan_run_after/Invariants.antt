use Rattle.std.proofs.Common.{◌≡◌, ◌*◌, ℤ, List, ◌++◌, take, length}
use Rattle.apl_summary.specs.Running.{AreFoldsBehind}
use Rattle.apl_summary.proofs.running.scan_run_after.Given as goal

abbrev pub invariant-loop-turn : goal.invariant-loop-turn
invariant-loop-turn g l = record {
  front : (before : List ℤ) → g.F.PrefixState.is_of l.initial.front before → g.F.PrefixState.is_of l.front (before ++ take (l.turn * 4) l.numbers);
  folds : (before : List ℤ) → g.F.PrefixState.is_of l.initial.front before → AreFoldsBehind g.F.PrefixState.step before l.numbers (l.turn * 4) l.room;
  len : length l.room ≡ length l.initial.room;
}
