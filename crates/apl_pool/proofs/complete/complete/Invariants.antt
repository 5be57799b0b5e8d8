use Rattle.std.proofs.Common.{◌≡◌, ℕ, ◌+◌, ◌<◌, ◌≤◌, true, false, length, slice_index, slice_index_or}
use Rattle.apl_pool.specs.Parts.{AreValuesAt}
use Rattle.apl_pool.proofs.complete.complete.Given as goal

abbrev pub invariant-loop-number : goal.invariant-loop-number
invariant-loop-number g l =
    let outcome = g.K.Kernel.outcome l.kernel in
    let start = slice_index l.pieces.starts.items in
    AreValuesAt outcome 0 (start l.number) l.values
    × (length l.values ≡ length l.initial.values)
    × ((n : ℕ) → l.number ≤ n → n < l.pieces.count → slice_index_or l.marks n false ≡ true → AreValuesAt outcome (start n) (start (n + 1)) l.values)
