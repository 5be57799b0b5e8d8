use Rattle.std.proofs.Common.{◌≡◌, ◌+◌, ◌-◌, ◌*◌, ◌<◌, ◌≤◌, ◌∷◌, [], Some, ap, length, length-append, ◌∙◌, sym, subst, arith}
use mathlib.Core.Logic.{dite}
use native.Mathlib.Decide.{ℕ_discrete}
use denote.Param.{param}
use Rattle.core.specs.Mem.Slots.Ownership.{bytes_of}
use Rattle.apl_rooms.specs.Layout.{AreFirstRooms, IsRoomOf}
use Rattle.apl_rooms.proofs.Layouts.{one_more, behind}
use Rattle.apl_rooms.proofs.layout.lay_out.Goals as goal

pub loop-number-preserved : goal.loop-number-preserved
loop-number-preserved g c =
    let R = param 0 g.row.T in
    let start = g.F.Task.start_of c.args.task.now in
    let base = c.args.row.ptr in
    let n = c.loop-number.number in
    let so_far = c.loop-number.invariant in
    let piece = c.cut-room.ensures in
    let end = c.start-end.ensures in
    let order : start n ≤ start (n + 1) = (let o = end.order (omega arith) in let same : n + 1 - 1 ≡ n = omega arith in omega (arith, subst (λ k. start k ≤ c.start-end.result) same o, end.start)) in
    let long : start n + c.cut-room.result.0.len ≡ start (n + 1) = omega (arith, piece.3, so_far.5, end.start, order) in
    let room : IsRoomOf R start base n c.cut-room.result.0 = (piece.2 ∙ so_far.3, long) in
    let items = c.push_reserved.ensures.items in (
      subst (λ l. AreFirstRooms R start base (n + 1) l) (sym items) (one_more R start base n c.loop-number.homes.items c.cut-room.result.0 so_far.1 so_far.0 room),
      ap length items ∙ length-append c.loop-number.homes.items (Some c.cut-room.result.0 ∷ []) ∙ omega (arith, so_far.1),
      omega (arith, c.push_reserved.ensures.capacity, so_far.2),
      behind R start base n (c.start-end.result - c.loop-number.start) _ _ so_far.3 piece.4 (omega (arith, so_far.5, end.start, order)),
      omega (arith, piece.5, so_far.4, so_far.5, end.start, order),
      end.start,
      so_far.6,
      (λ k lt. dite (ℕ_discrete k n)
          (λ e. subst (λ j. start (j + 1) ≤ c.args.row.len) (sym e) (omega (arith, end.start, end.within, c.requires.all)))
          (λ ne. so_far.7 k (omega arith))),
      (λ _. dite (ℕ_discrete n 0)
          (λ e. subst (λ k. k * bytes_of R < 9223372036854775808) (let z = ap start e in omega (arith, so_far.4, so_far.6, z)) piece.6)
          (λ ne. so_far.8 (omega arith))),
    )

pub returns : goal.returns
returns g c =
    let so_far = c.loop-number.invariant in
    let all = c.count-number-end.ensures in
    let is = c.loop-number-test.false in
    let end = c.loop-number.auto.number-end in
    record {
      number = omega (arith, so_far.1, all);
      some_rooms = c.requires.some;
      first = so_far.6;
      last = c.requires.all;
      within = λ n lt. so_far.7 n (omega (arith, all));
      each = λ n lt. so_far.0 n (omega (arith, all));
      fits = so_far.8 (omega (arith, all, c.requires.some));
      small = c.args.row.small;
    }
