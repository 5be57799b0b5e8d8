use Rattle.std.proofs.Common.{◌≡◌, All, vec_len}
use Rattle.crossbeam_deque.specs.Handles.{worker_deque, stealer_deque}
use Rattle.apl_yard.specs.Views.{opening_view}
use Rattle.apl_yard.specs.Ends.{hand_view, thief_view, room}
use Rattle.apl_yard.proofs.yard.Yard.new.Given as goal

abbrev pub invariant-loop : goal.invariant-loop
invariant-loop l = record {
  view : hand_view l.hand ≡ opening_view l.counter;
  room_is : room l.hand ≡ room l.initial.hand;
  deque : worker_deque l.hand.worker ≡ worker_deque l.initial.hand.worker;
  count : vec_len l.ends ≡ l.counter;
  each : All (λ t. (stealer_deque t.stealer ≡ worker_deque l.initial.hand.worker) × (thief_view t ≡ opening_view 0)) l.ends.items;
}
