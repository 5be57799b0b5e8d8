use Rattle.std.proofs.Common.{◌≡◌, ℕ, ℤ, List, ◌+◌, ◌*◌, length, vec_len, vec_capacity, map}
use Rattle.apl_summary.specs.Columns.{ArePlaceFolds, AreFrontsAt, AreFrontsInRow}
use Rattle.apl_summary.proofs.running_columns.append_row.Given as goal

abbrev pub invariant-loop-turn : goal.invariant-loop-turn
invariant-loop-turn g l = record {
  len : length l.fronts ≡ length l.initial.fronts;
  count : vec_len l.values ≡ vec_len l.initial.values + l.turn * 4;
  capacity : vec_capacity l.values ≡ vec_capacity l.initial.values;
  folds : (before : ℕ → List ℤ) → AreFrontsAt g.F.PrefixState.is_of before (vec_len l.initial.values) l.initial.fronts
      → ArePlaceFolds g.F.PrefixState.step before (map g.T.Numeric.number_in l.numbers) (vec_len l.initial.values) l.initial.values.items → ArePlaceFolds g.F.PrefixState.step before (map g.T.Numeric.number_in l.numbers) (vec_len l.values) l.values.items;
  fronts : (before : ℕ → List ℤ) → AreFrontsAt g.F.PrefixState.is_of before (vec_len l.initial.values) l.initial.fronts
      → AreFrontsInRow g.F.PrefixState.is_of before (map g.T.Numeric.number_in l.numbers) (vec_len l.initial.values) (l.turn * 4) l.fronts;
}
