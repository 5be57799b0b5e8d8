use Rattle.std.proofs.Common.{ℕ, ◌-◌, length, take, drop, slice_index, rules, ◌∙◌, arith}
use Rattle.std.proofs.lemmas.Result.{IfOk-weaker}
use Rattle.apl_walk.specs.Maps.{extent_of}
use Rattle.apl_walk.specs.Walks.{maps_of}
use Rattle.apl_struct.specs.Selecting.{reached_from}
use Rattle.apl_struct.proofs.Sources.{parts_of, place_first}
use Rattle.apl_struct.proofs.selecting.+selected_axes.Goals as goal

pub selected_axes-requires : goal.selected_axes-requires
selected_axes-requires t c =
    (search rules, (parts_of c.args.origin c.args.lengths.now c.args.slots.now c.slot-item.result (omega arith) (omega arith) c.slot-item.is c.requires).rest)

pub slot_map-map-requires : goal.slot_map-map-requires
slot_map-map-requires t c =
    let parts = parts_of c.args.origin c.args.lengths.now c.args.slots.now c.slot-item.result (omega arith) (omega arith) c.slot-item.is c.requires in
    record { within = parts.within; some = parts.slot.some; length = parts.axis.less; near = rw c.in_ok-inner.ensures.count parts.axis.both }

pub with-requires-clause-extent : goal.with-requires-clause-extent
with-requires-clause-extent t c =
    let parts = parts_of c.args.origin c.args.lengths.now c.args.slots.now c.slot-item.result (omega arith) (omega arith) c.slot-item.is c.requires in
    rw (c.slot_map-map.ensures.extent, c.in_ok-inner.ensures.extent) parts.slot.both

pub returns-clause-extent : goal.returns-clause-extent
returns-clause-extent t c =
    let parts = parts_of c.args.origin c.args.lengths.now c.args.slots.now c.slot-item.result (omega arith) (omega arith) c.slot-item.is c.requires in
    IfOk-weaker c.with.result _ _ (λ s is. rw (parts.count, ← c.in_ok-inner.ensures.extent, ← c.slot_map-map.ensures.extent) is) c.with.ensures.extent

pub returns-clause-place : goal.returns-clause-place
returns-clause-place t c =
    let inner = c.in_ok-inner.inner in
    let slot = c.slot-item.result in
    let n = slice_index c.args.lengths.now 0 in
    let ns = take (length c.args.lengths.now - 1) (drop 1 c.args.lengths.now) in
    let ss = take (length c.args.slots.now - 1) (drop 1 c.args.slots.now) in
    let parts = parts_of c.args.origin c.args.lengths.now c.args.slots.now slot (omega arith) (omega arith) c.slot-item.is c.requires in
    let steps = rw c.in_ok-inner.ensures.count at c.slot_map-map.ensures.step in
    let first = λ (place : ℕ). place_first c.args.origin n slot ns ss c.slot_map-map.result (reached_from inner.start (maps_of inner.walk) place) (extent_of (maps_of inner.walk)) place
    parts.slot.some c.in_ok-inner.ensures.extent (c.in_ok-inner.ensures.place place) c.slot_map-map.ensures.extent steps in
    IfOk-weaker c.with.result _ _ (λ s is place. is place ∙ rw (parts.lengths_are, parts.slots_are) (first place)) c.with.ensures.place
