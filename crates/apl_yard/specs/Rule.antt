-- The rule of a deque of pieces, and what each step tells.
use Rattle.std.specs.Prelude.{◌≡◌, ℕ, ◌+◌, ◌<◌, ◌==◌, cond, nat_lt, All, AllPairs, List, [], ◌∷◌, ◌++◌, length, Option, MatchOption}
use mathlib.Core.Option.{some}
use lib.ListN.{get_elem?}
use Rattle.apl_yard.specs.declared.rule.TakerView.{TakerView}
use Rattle.apl_yard.specs.Views.{with_pushed, with_taken}

-- how often this end took the piece at a position
abbrev pub times_at : ℕ → List (ℕ × ℕ) → ℕ
times_at position [] = 0
times_at position (t ∷ taken) = cond (t.0 == position) 1 0 + times_at position taken

-- how often all ends did
abbrev pub times_taken : ℕ → List TakerView → ℕ
times_taken position [] = 0
times_taken position (v ∷ views) = times_at position v.taken + times_taken position views

-- 1 for each position below n, and 0 for each other one
abbrev pub once_below : ℕ → ℕ → ℕ
once_below position n = cond (nat_lt position n) 1 0

-- what an end took is what was pushed there, and its positions rise
abbrev pub IsTakenFrom : List ℕ → TakerView → Type 0
IsTakenFrom pushed v = All (λ t. get_elem? pushed t.0 ≡ some t.1) v.taken × AllPairs (λ s t. s.0 < t.0) v.taken

-- the pieces in the deque, in order, and what each end knows, the owner first, make a state of the rule
pub record IsDequeState (items : List ℕ) (views : List TakerView) : Type 0 where
  -- what the owner knows
  pub owner : TakerView
  pub owner_is_first : get_elem? views 0 ≡ some owner
  -- there is an end for each thief, and no other
  pub ends : length views ≡ owner.thieves + 1
  -- the deque contains the ending of what was pushed, after the pieces that are gone
  pub gone : List ℕ
  pub pushed : owner.pushed ≡ gone ++ items
  -- each piece that is gone was taken once, by one end, and no other piece was taken
  pub once : (position : ℕ) → times_taken position views ≡ once_below position (length gone)
  -- each end took what was pushed
  pub each : (id : ℕ) (v : TakerView) → get_elem? views id ≡ some v → IsTakenFrom owner.pushed v

-- there is a state of the rule in which an end knows this
abbrev pub IsPossible : TakerView → Type 0
IsPossible v =
    ∥ ((items : List ℕ) × (views : List TakerView) × (id : ℕ) × IsDequeState items views × (get_elem? views id ≡ some v)) ∥₁

-- there is a state of the rule in which the deque is empty and the owner knows this
abbrev pub WasEmpty : TakerView → Type 0
WasEmpty v = (views : List TakerView) × IsDequeState [] views × (get_elem? views 0 ≡ some v)

-- the end took the piece at this position, which is beyond all at which it took before
abbrev pub IsTakenAt : TakerView → ℕ → ℕ → TakerView → Type 0
IsTakenAt old position piece new = (new ≡ with_taken old position piece) × All (λ t. t.0 < position) old.taken

-- a thief took the piece at some position
abbrev pub IsStolen : TakerView → ℕ → TakerView → Type 0
IsStolen old piece new = (position : ℕ) × IsTakenAt old position piece new

-- the owner took the piece where it had pushed it
abbrev pub IsPopped : TakerView → ℕ → TakerView → Type 0
IsPopped old piece new = (position : ℕ) × IsTakenAt old position piece new × (get_elem? old.pushed position ≡ some piece)

-- what the owner's try came to: the piece is popped, or nothing is taken and the deque can have been empty
abbrev pub IsPopAnswer : TakerView → Option ℕ → TakerView → Type 0
IsPopAnswer old answer new = MatchOption answer ((new ≡ old) × WasEmpty old) (λ piece. IsPopped old piece new)

-- each step is of one piece
abbrev pub PushTells : TakerView → List ℕ → TakerView → Type 0
PushTells old (piece ∷ []) new = new ≡ with_pushed old piece
PushTells old _ new = ⊥

-- the owner took this piece
abbrev pub PopTells : TakerView → List ℕ → TakerView → Type 0
PopTells old (piece ∷ []) new = IsPopped old piece new
PopTells old _ new = ⊥

-- a thief took this piece, and what it knows now is possible
abbrev pub StealTells : TakerView → List ℕ → TakerView → Type 0
StealTells old (piece ∷ []) new = IsStolen old piece new × IsPossible new
StealTells old _ new = ⊥
