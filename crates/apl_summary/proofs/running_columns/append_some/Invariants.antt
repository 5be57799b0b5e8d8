use Rattle.std.proofs.Common.{◌≡◌, ℕ, ℤ, List, ◌+◌, length, vec_len, vec_capacity, map}
use Rattle.apl_summary.specs.Columns.{ArePlaceFolds, AreFrontsInRow}
use Rattle.apl_summary.proofs.running_columns.append_some.Given as goal

abbrev pub invariant-loop-offset : goal.invariant-loop-offset
invariant-loop-offset g l = record {
  len : length l.fronts ≡ length l.initial.fronts;
  count : length l.values.items ≡ l.place + l.offset;
  capacity : vec_capacity l.values ≡ vec_capacity l.initial.values;
  folds : (before : ℕ → List ℤ) (start : ℕ) → vec_len l.initial.values ≡ start + l.from → AreFrontsInRow g.F.PrefixState.is_of before (map g.T.Numeric.number_in l.numbers) start l.from l.initial.fronts
      → ArePlaceFolds g.F.PrefixState.step before (map g.T.Numeric.number_in l.numbers) (vec_len l.initial.values) l.initial.values.items → ArePlaceFolds g.F.PrefixState.step before (map g.T.Numeric.number_in l.numbers) (l.place + l.offset) l.values.items;
  fronts : (before : ℕ → List ℤ) (start : ℕ) → vec_len l.initial.values ≡ start + l.from → AreFrontsInRow g.F.PrefixState.is_of before (map g.T.Numeric.number_in l.numbers) start l.from l.initial.fronts
      → AreFrontsInRow g.F.PrefixState.is_of before (map g.T.Numeric.number_in l.numbers) start (l.from + l.offset) l.fronts;
}
