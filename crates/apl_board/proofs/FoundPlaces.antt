-- The place that the word of the least place has, and what it is to the places of a seat.
use Rattle.std.proofs.Common.{◌≡◌, ℕ, ◌<◌, ◌≤◌, All, MatchOption, List, [], sym, ap, ◌∙◌, subst, arith}
use Rattle.apl_board.specs.declared.view.View.{View}
use Rattle.apl_board.specs.declared.view.TheConstants.{NOWHERE}
use Rattle.apl_board.specs.View.{with_seen}
use Rattle.apl_board.proofs.Totals.{all_from, all_to, none_in}
use Rattle.std.proofs.Common.{Option, Some, None}

-- a list of which each number is at least NOWHERE and below it has none
no_places : (xs : List ℕ) (r : ℕ) → r ≡ NOWHERE → All (λ x. (r ≤ x) × (x < NOWHERE)) xs → xs ≡ []
no_places xs r e h = none_in xs (λ x p. let q = all_to (λ y. (r ≤ y) × (y < NOWHERE)) xs h x p in absurd (omega (arith, q.0, q.1)))

-- what `place_of` makes of a word
abbrev pub IsPlaceOf : Option ℕ → ℕ → Type 0
IsPlaceOf place word = MatchOption place (NOWHERE ≤ word) (λ p. (p ≡ word) × (word < NOWHERE))

pub looked_view : (v w : View) (found : ℕ) (place : Option ℕ) → IsPlaceOf place found → (found < NOWHERE → w ≡ with_seen v found) → (NOWHERE ≤ found → w ≡ v)
    → MatchOption place (w ≡ v) (λ p. w ≡ with_seen v p)
looked_view v w found None h some_seen none_seen = none_seen h
looked_view v w found (Some p) h some_seen none_seen = some_seen h.1 ∙ ap (with_seen v) (sym h.0)

pub looked_places : (xs : List ℕ) (found : ℕ) (place : Option ℕ) → IsPlaceOf place found → (NOWHERE ≤ found → found ≡ NOWHERE) → All (λ x. (found ≤ x) × (x < NOWHERE)) xs
    → MatchOption place (xs ≡ []) (λ p. All (λ x. p ≤ x) xs)
looked_places xs found None h top all = no_places xs found (top h) all
looked_places xs found (Some p) h top all = subst (λ (y : ℕ). All (λ x. y ≤ x) xs) (sym h.0) (all_from (λ x. found ≤ x) xs (λ x q. (all_to (λ y. (found ≤ y) × (y < NOWHERE)) xs all x q).0))
