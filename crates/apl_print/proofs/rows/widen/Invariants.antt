use Rattle.std.proofs.Common.{◌≡◌, ℕ, ◌+◌, ◌<◌, ◌≤◌, length, max, get_or}
use Rattle.apl_array.specs.Array.{element_in}
use Rattle.apl_print.specs.Shown.{field_of}
use Rattle.apl_print.proofs.rows.widen.Given as goal

-- the columns so far are widened, and the others are as they were
abbrev pub invariant-columns : goal.invariant-columns
invariant-columns l = record {
  widened : (k : ℕ) → k < l.k → get_or l.widths k 0 ≡ max (get_or l.initial.widths k 0) (length (field_of (element_in l.array (l.start + k))));
  kept : (k : ℕ) → l.k ≤ k → get_or l.widths k 0 ≡ get_or l.initial.widths k 0;
  short : (k : ℕ) → k < l.k → length (field_of (element_in l.array (l.start + k))) ≤ 21;
}
