-- The right of some workers to the rooms and the board of a pass. No contract of a public function cites this file.
use Rattle.std.specs.Prelude.{◌≡◌, ℕ, ◌+◌, ◌<◌, ◌≤◌, List, Bool, true, false, length, slice_index_or, slice_range, Option, IfSome}
use denote.RattleType.{RattleType}
use Rattle.apl_board.specs.declared.board.Board.{Board}
use Rattle.apl_board.specs.declared.seat.BoardSeat.{BoardSeat}
use Rattle.apl_board.specs.Seats.{view, IsSeatOf}
use Rattle.apl_rooms.specs.declared.rooms.Rooms.{Rooms}
use Rattle.apl_rooms.specs.Seats.{share_of, task_of, row_of, laid_out, IsSeatOf as IsRoomSeatOf}
use Rattle.apl_rooms.specs.Layout.{AreRoomsOf}
use Rattle.apl_pool.specs.declared.crew.Seats.{Seats}
use Rattle.std.specs.declared.vec.Vec.{Vec}

-- the seats of some workers
abbrev pub AreSeatsOf : {X F : Type 0} → Rooms X F → Board → Seats X → ℕ → Type 0
AreSeatsOf rooms board s workers = IsRoomSeatOf rooms s.rooms × (share_of s.rooms ≡ workers) × IsSeatOf board s.board × ((view s.board).share ≡ workers)

-- the rooms of this task's pieces
abbrev pub AreRoomsFor : (R : RattleType) → {F : Type 0} → (F → ℕ → ℕ) → (F → ℕ) → Rooms R.Denot F → F → Type 0
AreRoomsFor R start count rooms task = (task_of rooms ≡ task) × AreRoomsOf R (start task) (row_of rooms) (count task) (laid_out rooms)

-- what workers begin with: the rooms of these pieces, and seats
abbrev pub AreReady : (R : RattleType) → {F : Type 0} → (F → ℕ → ℕ) → (F → ℕ) → Rooms R.Denot F → F → Board → (pieces : ℕ) → Seats R.Denot → ℕ → Type 0
AreReady R start count rooms task board pieces seats workers = AreRoomsFor R start count rooms task × (count task ≡ pieces) × AreSeatsOf rooms board seats workers

-- some workers, no more than the tasks, and what they begin with
abbrev pub IsCrew : (R : RattleType) → {F : Type 0} → (F → ℕ → ℕ) → (F → ℕ) → Rooms R.Denot F → F → Board → (pieces : ℕ) → Seats R.Denot → (workers tasks : ℕ) → Type 0
IsCrew R start count rooms task board pieces seats workers tasks = (0 < workers) × (workers ≤ tasks) × AreReady R start count rooms task board pieces seats workers

-- what a pass begins with: as much room as these pieces fill, and the seat of all workers
abbrev pub IsPassReady : {F : Type 0} → (F → ℕ → ℕ) → (F → ℕ) → F → (room pieces : ℕ) → Board → BoardSeat → (workers : ℕ) → Type 0
IsPassReady start count task room pieces board seat workers = (start task (count task) ≡ room) × (count task ≡ pieces) × IsSeatOf board seat × ((view seat).share ≡ workers)

-- the values of a marked piece are right
abbrev pub AreMarks : {X : Type 0} → (ℕ → List X → Type 0) → (ℕ → ℕ) → ℕ → List X → List Bool → Type 0
AreMarks is_right start count values marks = (length marks ≡ count) × ((n : ℕ) → n < count → slice_index_or marks n false ≡ true → is_right n (slice_range values (start n) (start (n + 1))))

-- the same of a task, by what is right for it and by where its pieces begin
abbrev pub AreMarksOf : {X F : Type 0} → (F → ℕ → List X → Type 0) → (F → ℕ → ℕ) → (F → ℕ) → F → List X → List Bool → Type 0
AreMarksOf is_right start count task = AreMarks (is_right task) (start task) (count task)

-- the marks that a pass brings, if any, are those of these values
abbrev pub HasMarks : {X F : Type 0} → (F → ℕ → List X → Type 0) → (F → ℕ → ℕ) → (F → ℕ) → {Z : Type 0} → F → List X → Option (Vec Bool Z) → Type 0
HasMarks is_right start count task values brought = IfSome brought (λ b. AreMarksOf is_right start count task values b.items)
