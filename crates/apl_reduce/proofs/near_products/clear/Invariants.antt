use Rattle.std.proofs.Common.{◌≡◌, ℕ, pos, ◌<◌, length, slice_index_or}
use Rattle.apl_reduce.proofs.near_products.clear.Given as goal

abbrev pub invariant-loop-j : goal.invariant-loop-j
invariant-loop-j l = record {
  zeros : (i : ℕ) → i < l.j → slice_index_or l.totals i (pos 0) ≡ pos 0;
  len : length l.totals ≡ length l.initial.totals;
}
