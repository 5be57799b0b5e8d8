use Rattle.std.proofs.Common.{◌≡◌, ℕ, ◌+◌, ◌*◌, ◌^◌, ◌<◌, ◌≤◌, length, vec_capacity}
use denote.Param.{param}
use Rattle.core.specs.Ptr.{ptr_add}
use Rattle.core.specs.Mem.Slots.Ownership.{bytes_of}
use Rattle.apl_rooms.specs.Layout.{AreFirstRooms}
use Rattle.apl_rooms.proofs.layout.lay_out.Given as goal

abbrev pub invariant-loop-number : goal.invariant-loop-number
invariant-loop-number g l =
    let start = g.F.Task.start_of l.task in
    AreFirstRooms (param 0 g.row.T) start l.initial.rest.ptr l.number l.homes.items
    × (length l.homes.items ≡ l.number)
    × (vec_capacity l.homes ≡ vec_capacity l.initial.homes)
    × (l.rest.ptr ≡ ptr_add (param 0 g.row.T) (start l.number) l.initial.rest.ptr)
    × (l.rest.len + start l.number ≡ l.initial.rest.len)
    × (l.start ≡ start l.number)
    × (start 0 ≡ 0)
    × ((n : ℕ) → n < l.number → start (n + 1) ≤ l.initial.rest.len)
    × (0 < l.number → l.initial.rest.len * bytes_of (param 0 g.row.T) < 2 ^ 63)
