use Rattle.std.proofs.Common.{◌≡◌, ℕ, ◌≤◌, length}
use lib.ListN.{get_elem?}
use Rattle.apl_rooms.proofs.layout.glue_all.Given as goal

abbrev pub invariant-loop-number : goal.invariant-loop-number
invariant-loop-number g l =
    (l.whole.ptr ≡ l.initial.whole.ptr)
    × (l.whole.len ≡ g.F.Task.start_of l.task l.number)
    × (length l.homes.items ≡ length l.initial.homes.items)
    × ((k : ℕ) → l.number ≤ k → get_elem? l.homes.items k ≡ get_elem? l.initial.homes.items k)
