-- A split and a join keep the rule.
use Rattle.std.proofs.Common.{◌≡◌, ℕ, ◌+◌, ◌<◌, ◌≤◌, ◌≢◌, Bool, true, false, true≢false, ◌||◌, List, [], ◌∷◌, ◌++◌, set, sym, refl, subst, inl, inr, ⊎_elim, arith}
use Rattle.std.proofs.lemmas.List.{set-get_or}
use mathlib.Core.Option.{some, none}
use lib.ListN.{get_elem?}
use Rattle.atomic_table.specs.Table.{step, keeps, Allows, Splits, Joins}
use Rattle.atomic_table.proofs.Lists.{at_set, set_again}
use Rattle.apl_board.specs.declared.view.View.{View}
use Rattle.apl_board.specs.declared.view.Extent.{Extent}
use Rattle.apl_board.specs.declared.view.TheConstants.{NOWHERE}
use Rattle.apl_board.specs.View.{times, rest_of, part_of, joined, spent}
use Rattle.apl_board.specs.Rule.{IsLawfulBoard, IsLawfulSeat, total, next_of, least_of, reported_in, seen_in}
use Rattle.apl_board.specs.Steps.{SeatState, TellsShareBound}
use Rattle.apl_board.proofs.Totals.{times-append, total-snoc, total-set, term_le}
use Rattle.apl_board.proofs.Preserved.{each_set, each_snoc, places_same}

-- no seat has more shares than a board can have
pub bounds : (extent : Extent) (slots id : ℕ) (m : SeatState) → Allows (IsLawfulBoard extent) slots id m 0 (λ n. n) (TellsShareBound (step slots 0 0 0 none) m)
bounds extent slots id m s h homes at small = (
  m.0,
  keeps,
  tt,
  subst (λ (q : List ℕ × List View). IsLawfulBoard extent record { words = q.0; homes = s.homes; views = q.1 }) (λ i. (sym (set-get_or s.words 0 0) i, sym (set_again s.views id m.0 at) i)) h,
  omega (arith, term_le (λ v. v.share) s.views id m.0 at, h.numbers.shares, h.small),
)

pub splits : (extent : Extent) (id : ℕ) (v : View) (n : ℕ) → 0 < n → n < v.share → Splits (IsLawfulBoard extent) id v (rest_of v n) (part_of v n)
splits extent id v n some_part some_left s h at =
    let left : View = rest_of v n in
    let right : View = part_of v n in
    let views : List View = set s.views id left in
    let q = h.numbers in
    let old = q.each id v at in
    let both : (g : View → ℕ) → total g (views ++ right ∷ []) + g v ≡ total g s.views + g left + g right = λ g. omega (arith, total-snoc g views right, total-set g s.views id v left at) in
    let same : (x : ℕ) → reported_in x (views ++ right ∷ []) ≡ reported_in x s.views = λ x. omega (arith, both (λ u. times x u.reported)) in
    record {
      small = h.small;
      two = h.two;
      numbers = record {
        shares = omega (arith, both (λ u. u.share), q.shares);
        each = each_snoc (IsLawfulSeat extent (next_of s)) views right
            record { told = old.told; few_past = omega (arith, old.few_past); none_past = λ f. omega (arith, old.none_past f); spent = λ z. absurd (omega arith) }
            (each_set (IsLawfulSeat extent (next_of s)) s.views id left record { told = old.told; few_past = omega arith; none_past = λ f. omega (arith, old.none_past f); spent = λ z. absurd (omega arith) } q.each);
        once = λ x. omega (arith, both (λ u. times x u.given), q.once x);
        passed = omega (arith, both (λ u. u.past), q.passed);
      };
      places = record {
        below = λ x p. h.places.below x (omega (arith, same x));
        reported = ⊎_elim (λ (e : least_of s ≡ NOWHERE). inl e) (λ (p : 0 < reported_in (least_of s) s.views). inr (omega (arith, same (least_of s)))) h.places.reported;
        seen = λ x p. omega (arith, same x, h.places.seen x (omega (arith, both (λ u. times x u.seen), term_le (λ u. times x u.seen) s.views id v at)));
      };
    }

or_true : (a b : Bool) (P : Type 0) → (a ≡ true → P) → (b ≡ true → P) → a || b ≡ true → P
or_true true b P f g e = f refl
or_true false b P f g e = g e

or_false : (a b : Bool) → a || b ≡ false → (a ≡ false) × (b ≡ false)
or_false true b e = absurd (true≢false e)
or_false false b e = (refl, e)

pub joins : (extent : Extent) (id other : ℕ) (v w : View) → 0 < v.share → Joins (IsLawfulBoard extent) id v other w (joined v w) spent
joins extent id other v w own s h at two at' =
    let both : View = joined v w in
    let mid : List View = set s.views id both in
    let views : List View = set mid other spent in
    let q = h.numbers in
    let mine = q.each id v at in
    let was : get_elem? s.views other ≡ some w = ⊎_elim (λ (x : (other ≡ id) × (both ≡ w)). absurd (two x.0)) (λ (x : (other ≢ id) × (get_elem? s.views other ≡ some w)). x.1) (at_set s.views id other both w at') in
    let theirs = q.each other w was in
    let sum : (g : View → ℕ) → g spent ≡ 0 → total g views + g v + g w ≡ total g s.views + g both = λ g z. omega (arith, z, total-set g s.views id v both at, total-set g mid other w spent at') in
    let reports : (x : ℕ) → reported_in x views ≡ reported_in x s.views = λ x. omega (arith, sum (λ u. times x u.reported) refl, times-append x v.reported w.reported) in
    let sees : (x : ℕ) → seen_in x views ≡ seen_in x s.views = λ x. omega (arith, sum (λ u. times x u.seen) refl, times-append x v.seen w.seen) in
    record {
      small = h.small;
      two = h.two;
      numbers = record {
        shares = omega (arith, sum (λ u. u.share) refl, q.shares);
        each = each_set (IsLawfulSeat extent (next_of s)) mid other spent
            record { told = λ t. absurd (true≢false (sym t)); few_past = omega arith; none_past = λ f. refl; spent = λ z. (refl, refl, refl) }
            (each_set (IsLawfulSeat extent (next_of s)) s.views id both
            record {
              told = or_true v.told w.told (extent.pieces ≤ next_of s) mine.told theirs.told;
              few_past = omega (arith, mine.few_past, theirs.few_past);
              none_past = λ f. let e = or_false v.told w.told f in omega (arith, mine.none_past e.0, theirs.none_past e.1);
              spent = λ z. absurd (omega arith);
            }
            q.each);
        once = λ x. omega (arith, sum (λ u. times x u.given) refl, times-append x v.given w.given, q.once x);
        passed = omega (arith, sum (λ u. u.past) refl, q.passed);
      };
      places = places_same (least_of s) s.views views reports sees h.places;
    }
