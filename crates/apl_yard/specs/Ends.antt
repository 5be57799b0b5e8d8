-- What a clause says of the two kinds of end.
use Rattle.std.specs.Prelude.{◌≡◌, ℕ}
use Rattle.crossbeam_deque.specs.Handles.{worker_view, worker_deque, stealer_deque, view}
use Rattle.apl_yard.specs.declared.rule.TakerView.{TakerView}
use Rattle.apl_yard.specs.declared.yard.Hand.{Hand}
use Rattle.apl_yard.specs.declared.yard.Thief.{Thief}

-- what the owner's end knows
abbrev pub hand_view : Hand → TakerView
hand_view hand = worker_view hand.worker

-- what a thief's end knows
abbrev pub thief_view : Thief → TakerView
thief_view thief = view thief.pass

-- how many more pieces can be pushed
abbrev pub room : Hand → ℕ
room hand = hand.room

-- the thief takes from this owner's deque
abbrev pub IsThiefOf : Hand → Thief → Type 0
IsThiefOf hand thief = stealer_deque thief.stealer ≡ worker_deque hand.worker

-- it is the owner's end of the deque that it was, so its thieves stay its thieves
abbrev pub IsSameDeque : Hand → Hand → Type 0
IsSameDeque old new = worker_deque new.worker ≡ worker_deque old.worker

-- it is a thief's end of the deque that it was
abbrev pub StealsFromSame : Thief → Thief → Type 0
StealsFromSame old new = stealer_deque new.stealer ≡ stealer_deque old.stealer
