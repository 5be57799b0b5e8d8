use Rattle.std.proofs.Common.{sym, subst}
use denote.Param.{param}
use Rattle.apl_rooms.specs.Seats.{laid_out}
use Rattle.apl_rooms.specs.Layout.{AreRoomsOf}
use Rattle.apl_pool.proofs.pass.fill_row.Goals as goal

pub work_together-seats-requires-clause-rooms : goal.work_together-seats-requires-clause-rooms
work_together-seats-requires-clause-rooms g c κs within =
    let made = c.in-Ok.ensures.made in
    (made.1, subst (λ row. AreRoomsOf (param 0 g.row.T) (g.F.Task.start_of c.args.task.now) row (g.F.Task.piece_count c.args.task.now) (laid_out c.in-Ok.rooms)) (sym made.0) c.in-Ok.ensures.rooms)
