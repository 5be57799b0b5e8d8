use Rattle.std.proofs.Common.{◌≡◌}
use Rattle.apl_board.specs.Seats.{view, IsSeatOf}
use Rattle.tests_arrays.proofs.board.drain.Given as goal

abbrev pub invariant-loop : goal.invariant-loop
invariant-loop l = record {
  board : IsSeatOf l.board l.seat;
  share : (view l.seat).share ≡ (view l.fn.seat).share;
}
