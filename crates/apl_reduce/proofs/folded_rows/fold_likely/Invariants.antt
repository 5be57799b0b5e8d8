use Rattle.std.proofs.Common.{◌≡◌, ℕ, pos, ◌+◌, ◌≤◌, length, map, Ok, slice_index_or}
use Rattle.apl_pool.specs.Runs.{AreWritten}
use Rattle.apl_reduce.specs.Folded.{folded_onto, element_along}
use Rattle.apl_reduce.proofs.folded_rows.fold_likely.Given as goal

abbrev pub invariant-loop-j : goal.invariant-loop-j
invariant-loop-j g l = record {
  values : l.all_doubts ≡ 0 → AreWritten (λ j. folded_onto g.F.Function.FUNCTION (element_along (map g.T.ElementType.elem_of l.numbers) (l.first + j) l.stride) 0 l.count (Ok (slice_index_or l.initial.totals j (pos 0)))) 0 l.j l.totals;
  len : length l.totals ≡ length l.initial.totals;
  rest : (j : ℕ) → l.j ≤ j → slice_index_or l.totals j (pos 0) ≡ slice_index_or l.initial.totals j (pos 0);
}
