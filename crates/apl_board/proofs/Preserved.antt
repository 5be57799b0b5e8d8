-- What a step preserves of the rule.
use Rattle.std.proofs.Common.{◌≡◌, ℕ, ◌+◌, ◌<◌, ◌≤◌, ◌≢◌, List, [], ◌∷◌, ◌++◌, set, sym, ap, ◌∙◌, subst, inl, inr, ⊎_elim, arith}
use mathlib.Core.Option.{some}
use lib.ListN.{get_elem?}
use Rattle.atomic_table.proofs.Lists.{at_set, at_snoc}
use Rattle.apl_board.specs.declared.view.View.{View}
use Rattle.apl_board.specs.declared.view.Extent.{Extent}
use Rattle.apl_board.specs.declared.view.TheConstants.{NOWHERE}
use Rattle.apl_board.specs.View.{times}
use Rattle.apl_board.specs.Rule.{NumbersAreLawful, PlacesAreLawful, IsLawfulSeat, reported_in, seen_in}
use Rattle.apl_board.proofs.Totals.{total-set, total_le}

pub later : (extent : Extent) (n m : ℕ) (v : View) → n ≤ m → IsLawfulSeat extent n v → IsLawfulSeat extent m v
later extent n m v le q = record { told = λ t. omega (arith, q.told t); few_past = q.few_past; none_past = q.none_past; spent = q.spent }

pub each_set : (F : View → Type 0) (views : List View) (id : ℕ) (w : View) → F w → ((j : ℕ) (u : View) → get_elem? views j ≡ some u → F u) → (j : ℕ) (u : View) → get_elem? (set views id w) j ≡ some u → F u
each_set F views id w mine others j u e = ⊎_elim (λ (x : (j ≡ id) × (w ≡ u)). subst F x.1 mine) (λ (x : (j ≢ id) × (get_elem? views j ≡ some u)). others j u x.1) (at_set views id j w u e)

pub each_snoc : (F : View → Type 0) (views : List View) (w : View) → F w → ((j : ℕ) (u : View) → get_elem? views j ≡ some u → F u) → (j : ℕ) (u : View) → get_elem? (views ++ w ∷ []) j ≡ some u → F u
each_snoc F views w mine others j u e = ⊎_elim (λ (x : get_elem? views j ≡ some u). others j u x) (λ (x : w ≡ u). subst F x mine) (at_snoc views w u j e)

-- the places stand where what was reported and seen is the same
pub places_same : (l : ℕ) (views views' : List View) → ((x : ℕ) → reported_in x views' ≡ reported_in x views) → ((x : ℕ) → seen_in x views' ≡ seen_in x views) → PlacesAreLawful l views → PlacesAreLawful l views'
places_same l views views' r s p = record {
  below = λ x h. p.below x (omega (arith, r x));
  reported = ⊎_elim (λ (e : l ≡ NOWHERE). inl e) (λ (h : 0 < reported_in l views). inr (omega (arith, r l))) p.reported;
  seen = λ x h. omega (arith, r x, p.seen x (omega (arith, s x)));
}

-- the next number stands far below 2 ^ 64
pub low : (extent : Extent) (n : ℕ) (views : List View) → NumbersAreLawful extent n views → n ≤ extent.pieces + extent.seats
low extent n views q = omega (arith, q.passed, q.shares, total_le (λ v. v.past) (λ v. v.share) views (λ j v e. (q.each j v e).few_past))

-- the view of the seat id becomes w: the numbers stand where its share, what it was given and told, and its steps past the end are the same
pub numbers_same : (extent : Extent) (n id : ℕ) (v w : View) (views : List View) → get_elem? views id ≡ some v → 0 < v.share
    → w.share ≡ v.share → w.given ≡ v.given → w.told ≡ v.told → w.past ≡ v.past → NumbersAreLawful extent n views → NumbersAreLawful extent n (set views id w)
numbers_same extent n id v w views at own a b c d q = let old = q.each id v at in record {
  shares = omega (arith, total-set (λ u. u.share) views id v w at, q.shares, a);
  each = each_set (IsLawfulSeat extent n) views id w record { told = λ t. old.told (sym c ∙ t); few_past = omega (arith, old.few_past, a, d); none_past = λ f. d ∙ old.none_past (sym c ∙ f); spent = λ z. absurd (omega (arith, a)) } q.each;
  once = λ x. omega (arith, total-set (λ u. times x u.given) views id v w at, q.once x, ap (times x) b);
  passed = omega (arith, total-set (λ u. u.past) views id v w at, q.passed, d);
}

-- the places stand where what the seat reported and saw is the same
pub places_set : (l id : ℕ) (v w : View) (views : List View) → get_elem? views id ≡ some v → w.reported ≡ v.reported → w.seen ≡ v.seen → PlacesAreLawful l views → PlacesAreLawful l (set views id w)
places_set l id v w views at a b p = places_same l views (set views id w)
    (λ x. omega (arith, total-set (λ u. times x u.reported) views id v w at, ap (times x) a))
    (λ x. omega (arith, total-set (λ u. times x u.seen) views id v w at, ap (times x) b)) p
