use Rattle.std.proofs.Common.{◌≡◌, ◌<◌, ◌∙◌, length-set, arith}
use denote.Param.{param}
use Rattle.atomic_table.proofs.Lists.{set_else}
use Rattle.apl_rooms.proofs.Layouts.{same_at, taken_is, taken_room, glues}
use Rattle.apl_rooms.proofs.layout.glue_all.Goals as goal

pub unreachable-requires : goal.unreachable-requires
unreachable-requires g c =
    let n = c.loop-number.number in
    let so_far = c.loop-number.invariant in
    let inside : n < g.F.Task.piece_count c.args.task.now = (let t = c.loop-number-test.true in omega (arith, c.len-number-end.ensures, c.requires.rooms.number, c.args.homes.ok.0)) in
    let its = taken_is (param 0 g.row.T) _ _ _ _ _ c.requires.rooms c.loop-number.homes.items n c.take.result inside so_far.2 (so_far.3 n (omega arith)) (same_at c.loop-number.homes.items n c.take.result c.index_mut.result.now c.take.ensures.value c.index_mut.ensures.value) in
    c.in_default.not-Some its.0 its.1

pub glue-whole-requires : goal.glue-whole-requires
glue-whole-requires g c =
    let n = c.loop-number.number in
    let so_far = c.loop-number.invariant in
    let inside : n < g.F.Task.piece_count c.args.task.now = (let t = c.loop-number-test.true in omega (arith, c.len-number-end.ensures, c.requires.rooms.number, c.args.homes.ok.0)) in
    let its = taken_room (param 0 g.row.T) _ _ _ _ _ c.requires.rooms c.loop-number.homes.items n c.take.result c.in-Some.room inside so_far.2 (so_far.3 n (omega arith)) (same_at c.loop-number.homes.items n c.take.result c.index_mut.result.now c.take.ensures.value c.index_mut.ensures.value) c.in-Some.is in
    glues (param 0 g.row.T) _ _ _ _ _ c.requires.rooms n c.loop-number.whole.len c.loop-number.whole.ptr c.in-Some.room inside so_far.0 so_far.1 its

pub loop-number-preserved : goal.loop-number-preserved
loop-number-preserved g c =
    let n = c.loop-number.number in
    let so_far = c.loop-number.invariant in
    let inside : n < g.F.Task.piece_count c.args.task.now = (let t = c.loop-number-test.true in omega (arith, c.len-number-end.ensures, c.requires.rooms.number, c.args.homes.ok.0)) in
    let its = taken_room (param 0 g.row.T) _ _ _ _ _ c.requires.rooms c.loop-number.homes.items n c.take.result c.in-Some.room inside so_far.2 (so_far.3 n (omega arith)) (same_at c.loop-number.homes.items n c.take.result c.index_mut.result.now c.take.ensures.value c.index_mut.ensures.value) c.in-Some.is in
    let glued = c.glue-whole.ensures in (
      glued.1 ∙ so_far.0,
      omega (arith, glued.2, so_far.1, its.1),
      length-set c.loop-number.homes.items n c.take.new.self ∙ so_far.2,
      λ k le. set_else c.loop-number.homes.items n k c.take.new.self (λ (e : k ≡ n). absurd (omega arith)) ∙ so_far.3 k (omega arith),
    )
