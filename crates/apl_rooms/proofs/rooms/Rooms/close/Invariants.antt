use Rattle.std.proofs.Common.{◌≡◌, ℕ, ◌+◌, ◌<◌, ◌≤◌, true, false, length, slice_index_or, slice_range, vec_capacity}
use Rattle.core.specs.Mem.Slots.{slots_items, slots_filled, slots_len}
use Rattle.apl_rooms.proofs.rooms.Rooms.close.Given as goal

abbrev pub invariant-loop-number : goal.invariant-loop-number
invariant-loop-number g l =
    let start = g.F.Task.start_of l.fn.self.table.shared.key.task.value in
    (l.whole.ptr ≡ l.initial.whole.ptr)
    × (l.whole.len ≡ start l.number)
    × (slots_items l.closed.slots ≡ slots_items l.initial.closed.slots)
    × (slots_len l.closed.slots ≡ slots_len l.initial.closed.slots)
    × (l.closed.words ≡ l.initial.closed.words)
    × ((k : ℕ) → l.number ≤ k → k < slots_len l.closed.slots → slice_index_or (slots_filled l.closed.slots) k false ≡ true)
    × ((k : ℕ) → k < l.number → slice_index_or (slots_filled l.closed.slots) k false ≡ false)
    × (length l.marks.items ≡ l.number)
    × (vec_capacity l.marks ≡ vec_capacity l.initial.marks)
    × ((k : ℕ) → k < l.number → slice_index_or l.marks.items k false ≡ true → g.F.Task.is_right l.fn.self.table.shared.key.task.value k (slice_range l.whole.items (start k) (start (k + 1))))
