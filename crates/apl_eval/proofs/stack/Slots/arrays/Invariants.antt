use Rattle.std.proofs.Common.{◌≡◌, map, take}
use Rattle.std.specs.Prelude.{option_copied}
use Rattle.apl_eval.specs.Steps.{item_of}
use Rattle.apl_eval.proofs.stack.Slots.arrays.Given as goal

abbrev pub invariant-loop-slot : goal.invariant-loop-slot
invariant-loop-slot l = map option_copied l.arrays.items ≡ map item_of (take l.slot-index l.slot-items)
