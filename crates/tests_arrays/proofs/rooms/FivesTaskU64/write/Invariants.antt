use Rattle.std.proofs.Common.{◌≡◌, ◌+◌, ◌*◌, ◌<◌, ℕ, length, slice_index}
use Rattle.tests_arrays.proofs.rooms.FivesTaskU64.write.Given as goal

abbrev pub invariant-loop-index : goal.invariant-loop-index
invariant-loop-index l =
    (l.start ≡ 3 * l.fn.number)
    × (length l.values ≡ length l.initial.values)
    × ((i : ℕ) → i < l.index → slice_index l.values i ≡ 5 * (3 * l.fn.number + i) + 2)
