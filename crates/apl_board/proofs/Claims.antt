-- A claim keeps the rule.
use Rattle.std.proofs.Common.{◌≡◌, ℕ, ◌+◌, ◌%◌, ◌^◌, ◌<◌, ◌≤◌, min, false, true≢false, All, List, [], ◌∷◌, length, get_or, set, sym, refl, ap, ◌∙◌, subst, arith, length-set, get_or-set_other, get_or-set_same}
use mathlib.Core.Logic.{dite}
use native.Mathlib.Decide.{dec_le}
use mathlib.Core.Option.{some, none}
use lib.ListN.{get_elem?}
use Rattle.atomic_table.specs.Table.{step, keeps, Allows}
use Rattle.apl_board.specs.declared.view.View.{View}
use Rattle.apl_board.specs.declared.view.Extent.{Extent}
use Rattle.apl_board.specs.View.{times, once_below, with_given, with_told}
use Rattle.apl_board.specs.Rule.{IsLawfulBoard, NumbersAreLawful, PlacesAreLawful, IsLawfulSeat, next_of, least_of}
use Rattle.apl_board.specs.Steps.{SeatState, TellsClaim}
use Rattle.apl_board.proofs.Totals.{times-append, below_next, below_some, all_from, total-set, term_le}
use Rattle.apl_board.proofs.Preserved.{later, each_set, low, places_set}

given_after : (extent : Extent) (n id : ℕ) (v : View) (views : List View) → get_elem? views id ≡ some v → 0 < v.share → n < extent.pieces → NumbersAreLawful extent n views → NumbersAreLawful extent (n + 1) (set views id (with_given v n))
given_after extent n id v views at own lt q = let w : View = with_given v n in let old = q.each id v at in record {
  shares = omega (arith, total-set (λ u. u.share) views id v w at, q.shares);
  each = each_set (IsLawfulSeat extent (n + 1)) views id w
      record { told = λ t. omega (arith, old.told t); few_past = old.few_past; none_past = old.none_past; spent = λ z. absurd (omega arith) }
      (λ j u e. later extent n (n + 1) u (omega arith) (q.each j u e));
  once = λ x. let a : min (n + 1) extent.pieces ≡ n + 1 = omega arith in let b : min n extent.pieces ≡ n = omega arith in
      omega (arith, total-set (λ u. times x u.given) views id v w at, times-append x v.given (n ∷ []), below_next x n, q.once x, ap (once_below x) a, ap (once_below x) b);
  passed = omega (arith, total-set (λ u. u.past) views id v w at, q.passed);
}

told_after : (extent : Extent) (n id : ℕ) (v : View) (views : List View) → get_elem? views id ≡ some v → 0 < v.share → v.told ≡ false → extent.pieces ≤ n → NumbersAreLawful extent n views → NumbersAreLawful extent (n + 1) (set views id (with_told v))
told_after extent n id v views at own untold le q = let w : View = with_told v in let old = q.each id v at in record {
  shares = omega (arith, total-set (λ u. u.share) views id v w at, q.shares);
  each = each_set (IsLawfulSeat extent (n + 1)) views id w
      record { told = λ t. omega arith; few_past = omega (arith, old.none_past untold); none_past = λ f. absurd (true≢false f); spent = λ z. absurd (omega arith) }
      (λ j u e. later extent n (n + 1) u (omega arith) (q.each j u e));
  once = λ x. let a : min (n + 1) extent.pieces ≡ extent.pieces = omega arith in let b : min n extent.pieces ≡ extent.pieces = omega arith in
      omega (arith, total-set (λ u. times x u.given) views id v w at, q.once x, ap (once_below x) a, ap (once_below x) b);
  passed = omega (arith, total-set (λ u. u.past) views id v w at, q.passed);
}

-- all that were given to one seat are below the next number
all_below : (extent : Extent) (n id : ℕ) (v : View) (views : List View) → get_elem? views id ≡ some v → NumbersAreLawful extent n views → All (λ x. x < n) v.given
all_below extent n id v views at q = all_from (λ x. x < n) v.given (λ x p. let h = below_some x (min n extent.pieces) (omega (arith, term_le (λ u. times x u.given) views id v at, q.once x)) in omega arith)

pub claims : (extent : Extent) (slots id : ℕ) (m : SeatState) → m.0.pieces ≡ extent.pieces → 0 < m.0.share → m.0.told ≡ false
    → Allows (IsLawfulBoard extent) slots id m 0 (λ n. (n + 1) % 2 ^ 64) (TellsClaim (step slots 0 1 0 none) m)
claims extent slots id m same own untold s h homes at small =
    let r : ℕ = next_of s in
    let bound = low extent r s.views h.numbers in let few = h.small in
    let fits : (r + 1) % 2 ^ 64 ≡ r + 1 = omega arith in
    let ws : List ℕ = set s.words 0 ((r + 1) % 2 ^ 64) in
    let here : get_or ws 0 0 ≡ r + 1 = get_or-set_same s.words 0 ((r + 1) % 2 ^ 64) 0 (omega (arith, h.two)) ∙ fits in
    let there : get_or ws 1 0 ≡ least_of s = get_or-set_other s.words 0 1 ((r + 1) % 2 ^ 64) 0 (omega arith) in
    let long : length ws ≡ 2 = length-set s.words 0 ((r + 1) % 2 ^ 64) ∙ h.two in
    dite (dec_le extent.pieces r)
    (λ past. let w : View = with_told m.0 in (
      w,
      keeps,
      tt,
      record {
        small = h.small;
        two = long;
        numbers = subst (λ (n : ℕ). NumbersAreLawful extent n (set s.views id w)) (sym here) (told_after extent r id m.0 s.views at own untold past h.numbers);
        places = subst (λ (l : ℕ). PlacesAreLawful l (set s.views id w)) (sym there) (places_set (least_of s) id m.0 w s.views at refl refl h.places);
      },
      (refl, (λ lt. absurd (omega arith)), λ _. refl),
    ))
    (λ lt. let w : View = with_given m.0 r in (
      w,
      keeps,
      tt,
      record {
        small = h.small;
        two = long;
        numbers = subst (λ (n : ℕ). NumbersAreLawful extent n (set s.views id w)) (sym here) (given_after extent r id m.0 s.views at own (omega arith) h.numbers);
        places = subst (λ (l : ℕ). PlacesAreLawful l (set s.views id w)) (sym there) (places_set (least_of s) id m.0 w s.views at refl refl h.places);
      },
      (refl, (λ _. (refl, all_below extent r id m.0 s.views at h.numbers)), λ le. absurd (omega arith)),
    ))
