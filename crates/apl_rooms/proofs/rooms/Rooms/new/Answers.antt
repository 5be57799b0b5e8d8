use Rattle.std.proofs.Common.{◌≡◌, ◌∙◌, ap, sym, subst, replicate, rules, arith}
use denote.Param.{param}
use Rattle.core.specs.Mem.Slots.{slots_ptr, slots_len}
use Rattle.apl_rooms.specs.Rule.{IsLawful, opening_view}
use Rattle.atomic_table.specs.Table.{opening}
use Rattle.apl_rooms.proofs.Lengths.{ptr_add-zero}
use Rattle.apl_rooms.proofs.Opening.{opens_lawfully, rooms_same}
use Rattle.apl_rooms.proofs.rooms.Rooms.new.Goals as goal

pub new-requires : goal.new-requires
new-requires g c =
    let words : c.as_slice.result.now ≡ replicate (g.F.Task.piece_count c.args.task.now) 0 = search rules in
    let lawful = opens_lawfully (param 0 g.row.T) _ _ _ _ c.lay_out-homes.result.items c.lay_out-homes.ensures (g.F.Task.is_right c.of-3.result.value) c.args.seats c.as_slice.result.now c.requires.seats words in
    subst (λ rooms. IsLawful (g.F.Task.is_right c.of-3.result.value) c.args.seats rooms (opening c.as_slice.result.now c.lay_out-homes.result.items (opening_view c.args.seats rooms))) (sym (ap (λ v. v.items) c.of-2.ensures)) lawful

pub glue_all-requires-clause-rooms : goal.glue_all-requires-clause-rooms
glue_all-requires-clause-rooms g c =
    let R = param 0 g.row.T in
    let cut = c.cut-front.ensures in
    rooms_same R _ c.cut-front.result.1.ptr c.cut-front.result.0.ptr c.cut-front.result.1.len _ _ c.lay_out-homes.result.items c.in-Err.field-0.slots.items
    (cut.4 ∙ ptr_add-zero R c.of.result.ptr ∙ sym cut.2) (omega (arith, cut.5, c.of.ensures.1, c.requires.all)) (sym c.in-Err.ensures.err) c.lay_out-homes.ensures

pub returns-in-Ok-new-clause-rooms : goal.returns-in-Ok-new-clause-rooms
returns-in-Ok-new-clause-rooms g c =
    let R = param 0 g.row.T in
    let cut = c.cut-front.ensures in
    rooms_same R _ c.cut-front.result.1.ptr (slots_ptr c.args.row) c.cut-front.result.1.len (slots_len c.args.row) _ c.lay_out-homes.result.items _
    (cut.4 ∙ ptr_add-zero R c.of.result.ptr ∙ c.of.ensures.0) (omega (arith, cut.5, c.of.ensures.1)) (sym (ap (λ v. v.items) c.of-2.ensures) ∙ sym (ap (λ k. k.rooms.value.items) c.in-Ok-new.ensures.ok.5)) c.lay_out-homes.ensures
