use Rattle.std.proofs.Common.{◌≡◌, ℕ, pos, ◌+◌, ◌≤◌, length, Ok, slice_index_or, map}
use Rattle.apl_array.specs.declared.function.ScalarFunction.TheVariants.{Plus}
use Rattle.apl_pool.specs.Runs.{AreWritten}
use Rattle.apl_reduce.specs.Items.{number_step}
use Rattle.apl_reduce.specs.ProductRows.{row_item}
use Rattle.apl_reduce.proofs.line_rows.LineRows.fold_products.Given as goal

abbrev pub invariant-loop-j : goal.invariant-loop-j
invariant-loop-j g l = let s = l.self in
    AreWritten (λ j. number_step Plus (row_item s.line.now (map g.U.Numeric.number_in s.right.now) s.stride (l.column + j) l.row) (Ok (slice_index_or l.initial.totals j (pos 0)))) 0 l.j l.totals
    × (length l.totals ≡ length l.initial.totals)
    × ((j : ℕ) → l.j ≤ j → slice_index_or l.totals j (pos 0) ≡ slice_index_or l.initial.totals j (pos 0))
