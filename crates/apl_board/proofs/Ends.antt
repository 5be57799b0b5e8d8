-- What the seat with all shares knows at the end.
use Rattle.std.proofs.Common.{◌≡◌, ℕ, zero, suc, ◌<◌, ◌≤◌, min, true, All, Contains, MatchOption, List, [], ◌∷◌, get_or, sym, ap, ◌∙◌, subst, ⊎_elim, arith}
use mathlib.Core.Option.{some, some-injective, some-ne-none}
use lib.ListN.{get_elem?}
use Rattle.atomic_table.specs.Table.{Final, Seen}
use Rattle.apl_board.specs.declared.view.View.{View}
use Rattle.apl_board.specs.declared.view.Extent.{Extent}
use Rattle.apl_board.specs.declared.view.TheConstants.{NOWHERE}
use Rattle.apl_board.specs.View.{times, once_below}
use Rattle.apl_board.specs.Rule.{BoardState, IsLawfulBoard, total, next_of, least_of, reported_in, seen_in}
use Rattle.apl_board.proofs.Totals.{below_some, below_yes, all_from, contains_from, none_in, whole}
use Rattle.apl_board.proofs.FoundPlaces.{IsPlaceOf}
use Rattle.std.proofs.Common.{Option, Some, None}

-- what the seat with all shares knows at the end, of the next number n and the least place l
pub record Ended (extent : Extent) (v : View) (n l : ℕ) : Type 0 where
  pub given : (x : ℕ) → times x v.given ≡ once_below x (min n extent.pieces)
  pub told : v.told ≡ true → extent.pieces ≤ n
  pub nowhere : NOWHERE ≤ l → v.reported ≡ []
  pub somewhere : l < NOWHERE → Contains v.reported l
  pub least : All (λ x. l ≤ x) v.reported
  pub seen : All (λ x. Contains v.reported x) v.seen

at_get : (xs : List ℕ) (i a : ℕ) → get_elem? xs i ≡ some a → get_or xs i 0 ≡ a
at_get [] i a e = absurd (some-ne-none a (sym e))
at_get (x ∷ xs) zero a e = some-injective x a e
at_get (x ∷ xs) (suc i) a e = at_get xs i a e

ended : (extent : Extent) (s : BoardState) (id : ℕ) (v : View) → IsLawfulBoard extent s → get_elem? s.views id ≡ some v → v.share ≡ extent.seats → Ended extent v (next_of s) (least_of s)
ended extent s id v h at all =
    let q = h.numbers in
    let alone : (g : View → ℕ) → ((u : View) → (u.given ≡ []) × (u.reported ≡ []) × (u.seen ≡ []) → g u ≡ 0) → total g s.views ≡ g v =
    λ g z. whole (λ u. u.share) g s.views id v at (q.shares ∙ sym all) (λ i u e none. z u ((q.each i u e).spent none)) in
    let reports : (x : ℕ) → reported_in x s.views ≡ times x v.reported = λ x. alone (λ u. times x u.reported) (λ u e. ap (times x) e.1) in
    let sees : (x : ℕ) → seen_in x s.views ≡ times x v.seen = λ x. alone (λ u. times x u.seen) (λ u e. ap (times x) e.2) in
    record {
      given = λ x. sym (alone (λ u. times x u.given) (λ u e. ap (times x) e.0)) ∙ q.once x;
      told = (q.each id v at).told;
      nowhere = λ none. none_in v.reported (λ x p. let b = h.places.below x (omega (arith, reports x)) in absurd (omega (arith, b.0, b.1)));
      somewhere = λ lt. contains_from (least_of s) v.reported (⊎_elim (λ (e : least_of s ≡ NOWHERE). absurd (omega arith)) (λ (r : 0 < reported_in (least_of s) s.views). omega (arith, reports (least_of s))) h.places.reported);
      least = all_from (λ x. least_of s ≤ x) v.reported (λ x p. (h.places.below x (omega (arith, reports x))).0);
      seen = all_from (λ x. Contains v.reported x) v.seen (λ x p. contains_from x v.reported (let r = h.places.seen x (omega (arith, sees x)) in omega (arith, reports x)));
    }

pub ends : (extent : Extent) (id : ℕ) (v : View) (ws : List ℕ) (xs : List (Unit {0})) (n l : ℕ) → v.share ≡ extent.seats → get_elem? ws 0 ≡ some n → get_elem? ws 1 ≡ some l → Final (Seen (IsLawfulBoard extent) id v) ws xs → Ended extent v n l
ends extent id v ws xs n l all first second f =
    let s = f.0 in
    let a : next_of s ≡ n = ap (λ (q : List ℕ). get_or q 0 0) f.2 ∙ at_get ws 0 n first in
    let b : least_of s ≡ l = ap (λ (q : List ℕ). get_or q 1 0) f.2 ∙ at_get ws 1 l second in
    subst (λ (q : ℕ × ℕ). Ended extent v q.0 q.1) (λ i. (a i, b i)) (ended extent s id v f.1.0 f.1.1 all)

pub least_at_end : (extent : Extent) (v : View) (n l : ℕ) (place : Option ℕ) → Ended extent v n l → IsPlaceOf place l
    → MatchOption place (v.reported ≡ []) (λ p. Contains v.reported p × All (λ x. p ≤ x) v.reported)
least_at_end extent v n l None e h = e.nowhere h
least_at_end extent v n l (Some p) e h = subst (λ (y : ℕ). Contains v.reported y × All (λ x. y ≤ x) v.reported) (sym h.0) (e.somewhere h.1, e.least)

pub every_given : (xs : List ℕ) (n : ℕ) → ((x : ℕ) → times x xs ≡ once_below x n) → (x : ℕ) → x < n → Contains xs x
every_given xs n given x below = contains_from x xs (omega (arith, given x, below_yes x n below))

pub none_above : (xs : List ℕ) (n : ℕ) → ((x : ℕ) → times x xs ≡ once_below x n) → All (λ x. x < n) xs
none_above xs n given = all_from (λ x. x < n) xs (λ x some. below_some x n (omega (arith, given x)))
