-- What a seat learns by each step on the board's words: of the step, the seat before, the number found and the seat after.
use Rattle.std.specs.Prelude.{◌≡◌, ℕ, ◌<◌, ◌≤◌, All}
use Rattle.atomic_table.specs.Table.{Me, Step}
use Rattle.apl_board.specs.declared.view.View.{View}
use Rattle.apl_board.specs.declared.view.TheConstants.{NOWHERE, MOST_SHARES}
use Rattle.apl_board.specs.View.{with_given, with_told, with_reported, with_seen}

-- a seat's view, and the slots that it holds: none
abbrev pub SeatState : Type 0
SeatState = Me (Unit {0}) View

-- a number below the pieces is given, and is greater than all that were given to this seat before
abbrev pub TellsClaim : Step (Unit {0}) → SeatState → ℕ → SeatState → Type 0
TellsClaim step old found new = (new.1 ≡ old.1)
    × (found < old.0.pieces → (new.0 ≡ with_given old.0 found) × All (λ x. x < found) old.0.given)
    × (old.0.pieces ≤ found → new.0 ≡ with_told old.0)

-- the place was reported
abbrev pub TellsReport : Step (Unit {0}) → SeatState → ℕ → SeatState → Type 0
TellsReport step old found new = (new.1 ≡ old.1) × (new.0 ≡ with_reported old.0 step.first)

-- the least place is at most all that this seat reported or saw
abbrev pub TellsLook : Step (Unit {0}) → SeatState → ℕ → SeatState → Type 0
TellsLook step old found new = (new.1 ≡ old.1)
    × All (λ x. (found ≤ x) × (x < NOWHERE)) old.0.reported
    × All (λ x. (found ≤ x) × (x < NOWHERE)) old.0.seen
    × (found < NOWHERE → new.0 ≡ with_seen old.0 found)
    × (NOWHERE ≤ found → (new.0 ≡ old.0) × (found ≡ NOWHERE))

-- no seat has more than all shares
abbrev pub TellsShareBound : Step (Unit {0}) → SeatState → ℕ → SeatState → Type 0
TellsShareBound step old found new = old.0.share ≤ MOST_SHARES
