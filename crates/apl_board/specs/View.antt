-- What a seat of a board knows, and what each call makes of it.
use Rattle.std.specs.Prelude.{◌≡◌, ℕ, ◌+◌, ◌-◌, ◌==◌, ◌≤◌, min, true, false, ◌||◌, cond, nat_lt, List, [], ◌∷◌, ◌++◌, Option, MatchOption, All, Contains}
use Rattle.apl_board.specs.declared.view.View.{View}
use Rattle.apl_board.specs.declared.view.Extent.{Extent}

-- how often x is in a list
abbrev pub times : ℕ → List ℕ → ℕ
times x [] = 0
times x (y ∷ ys) = cond (y == x) 1 0 + times x ys

-- once for each number below n, and never for others
abbrev pub once_below : ℕ → ℕ → ℕ
once_below x n = cond (nat_lt x n) 1 0

-- a board of this many pieces and shares
abbrev pub extent_of : ℕ → ℕ → Extent
extent_of pieces seats = record { pieces = pieces; seats = seats }

-- a seat with this share that has got, reported and seen nothing
abbrev pub blank : ℕ → ℕ → ℕ → View
blank pieces seats share = record {
  pieces = pieces;
  seats = seats;
  share = share;
  given = [];
  reported = [];
  seen = [];
  told = false;
  past = 0;
}

-- one more number was given to the seat
abbrev pub with_given : View → ℕ → View
with_given v number = record v { given = v.given ++ number ∷ [] }

-- the seat reported one more place
abbrev pub with_reported : View → ℕ → View
with_reported v place = record v { reported = v.reported ++ place ∷ [] }

-- the seat saw one more least place
abbrev pub with_seen : View → ℕ → View
with_seen v place = record v { seen = v.seen ++ place ∷ [] }

-- the seat was told that no piece is left, by a step past the end
abbrev pub with_told : View → View
with_told v = record v { told = true; past = v.past + 1 }

-- what a claim without a number makes of a seat: one that was told before makes no step
abbrev pub after_none : View → View
after_none v = cond v.told v (with_told v)

-- what stays with a seat of which a share is cut off: all that it was given and reported
abbrev pub rest_of : View → ℕ → View
rest_of v share = record v { share = v.share - share; past = min v.past (v.share - share) }

-- The seat that is cut off knows what the old one saw and was told. A seat has at most as many steps past the end as its share.
-- Those that are too many for the old one go to this one
abbrev pub part_of : View → ℕ → View
part_of v share = record {
  pieces = v.pieces;
  seats = v.seats;
  share = share;
  given = [];
  reported = [];
  seen = v.seen;
  told = v.told;
  past = v.past - (v.share - share);
}

-- one seat of two
abbrev pub joined : View → View → View
joined v w = record {
  pieces = v.pieces;
  seats = v.seats;
  share = v.share + w.share;
  given = v.given ++ w.given;
  reported = v.reported ++ w.reported;
  seen = v.seen ++ w.seen;
  told = v.told || w.told;
  past = v.past + w.past;
}

-- what is left of a seat that was joined to another
abbrev pub spent : View
spent = blank 0 0 0

-- the place is at most each of these, and `None` only if there are none
abbrev pub IsAtMostEach : Option ℕ → List ℕ → Type 0
IsAtMostEach place places = MatchOption place (places ≡ []) (λ p. All (λ x. p ≤ x) places)

-- the least of these places, or `None` if there are none
abbrev pub IsLeastOf : Option ℕ → List ℕ → Type 0
IsLeastOf place places = MatchOption place (places ≡ []) (λ p. Contains places p × All (λ x. p ≤ x) places)
