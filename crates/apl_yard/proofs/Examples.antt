-- A worked history of a deque: pieces 4, 7 and 9 are pushed, the thief takes 4, the owner takes 7, and 9 is left.
use Rattle.std.proofs.Common.{◌≡◌, ℕ, zero, suc, ◌+◌, List, [], ◌∷◌, refl}
use Rattle.apl_yard.specs.declared.rule.TakerView.{TakerView}
use Rattle.apl_yard.specs.Views.{opening_view, with_pushed, with_taken, with_thief}
use Rattle.apl_yard.specs.Rule.{times_at, times_taken, once_below, IsTakenAt, IsStolen, IsPopped}

-- what the owner and the thief know after each step
opened : TakerView
opened = with_thief (opening_view 0)

pushed : TakerView
pushed = with_pushed (with_pushed (with_pushed opened 4) 7) 9

thief : TakerView
thief = with_taken (opening_view 0) 0 4

owner : TakerView
owner = with_taken pushed 1 7

pushed_in_order : pushed.pushed ≡ 4 ∷ 7 ∷ 9 ∷ []
unfolding pushed opened
pushed_in_order = refl

one_thief : pushed.thieves ≡ 1
unfolding pushed opened
one_thief = refl

thief_took_the_first : thief.taken ≡ (0, 4) ∷ []
unfolding thief
thief_took_the_first = refl

owner_took_the_second : owner.taken ≡ (1, 7) ∷ []
unfolding owner pushed opened
owner_took_the_second = refl

-- the first two positions were taken once, and the third by none
first_was_taken_once : times_taken 0 (owner ∷ thief ∷ []) ≡ once_below 0 2
unfolding owner pushed opened thief
first_was_taken_once = refl

second_was_taken_once : times_taken 1 (owner ∷ thief ∷ []) ≡ once_below 1 2
unfolding owner pushed opened thief
second_was_taken_once = refl

third_is_left : times_taken 2 (owner ∷ thief ∷ []) ≡ once_below 2 2
unfolding owner pushed opened thief
third_is_left = refl

-- the same piece twice is no state of the rule: its position would be taken twice
twice_is_seen : times_taken 0 (with_taken pushed 0 4 ∷ thief ∷ []) ≡ 2
unfolding pushed opened thief
twice_is_seen = refl
