-- A report and a look at the least place keep the rule, and what they tell.
use Rattle.std.proofs.Common.{◌≡◌, ℕ, ◌+◌, ◌<◌, ◌≤◌, min, All, List, [], ◌∷◌, get_or, set, sym, refl, ◌∙◌, subst, inl, inr, ⊎_elim, arith, length-set, get_or-set_other, get_or-set_same}
use Rattle.std.proofs.lemmas.List.{set-get_or}
use mathlib.Core.Logic.{dite}
use native.Mathlib.Decide.{ℕ_discrete, dec_le}
use mathlib.Core.Option.{some, none}
use lib.ListN.{get_elem?}
use Rattle.atomic_table.specs.Table.{step, keeps, Allows}
use Rattle.atomic_table.proofs.Lists.{set_again}
use Rattle.apl_board.specs.declared.view.View.{View}
use Rattle.apl_board.specs.declared.view.Extent.{Extent}
use Rattle.apl_board.specs.declared.view.TheConstants.{NOWHERE}
use Rattle.apl_board.specs.View.{times, with_reported, with_seen}
use Rattle.apl_board.specs.Rule.{IsLawfulBoard, NumbersAreLawful, PlacesAreLawful, next_of, least_of, reported_in, seen_in}
use Rattle.apl_board.specs.Steps.{SeatState, TellsReport, TellsLook}
use Rattle.apl_board.proofs.Totals.{times-append, times-same, times-other, all_from, total-set, term_le}
use Rattle.apl_board.proofs.Preserved.{numbers_same}

report_places : (l id place : ℕ) (v : View) (views : List View) → get_elem? views id ≡ some v → place < NOWHERE → PlacesAreLawful l views → PlacesAreLawful (min l place) (set views id (with_reported v place))
report_places l id place v views at small p =
    let w : View = with_reported v place in
    let more : (x : ℕ) → reported_in x (set views id w) ≡ reported_in x views + times x (place ∷ []) = λ x. omega (arith, total-set (λ u. times x u.reported) views id v w at, times-append x v.reported (place ∷ [])) in
    let seen_same : (x : ℕ) → seen_in x (set views id w) ≡ seen_in x views = λ x. omega (arith, total-set (λ u. times x u.seen) views id v w at) in
    record {
      below = λ x h. dite (ℕ_discrete place x)
          (λ e. (omega arith, omega arith))
          (λ ne. let q = p.below x (omega (arith, more x, times-other x place ne)) in (omega (arith, q.0), q.1));
      reported = dite (dec_le l place)
          (λ le. let is : min l place ≡ l = omega arith in ⊎_elim (λ (e : l ≡ NOWHERE). absurd (omega arith))
          (λ (h : 0 < reported_in l views). inr (subst (λ (y : ℕ). 0 < reported_in y (set views id w)) (sym is) (let g : 0 < reported_in l (set views id w) = omega (arith, more l) in g))) p.reported)
          (λ gt. let is : min l place ≡ place = omega arith in inr (subst (λ (y : ℕ). 0 < reported_in y (set views id w)) (sym is) (let g : 0 < reported_in place (set views id w) = omega (arith, more place, times-same place) in g)));
      seen = λ x h. omega (arith, more x, p.seen x (omega (arith, seen_same x)));
    }

pub reports : (extent : Extent) (slots id : ℕ) (m : SeatState) (place : ℕ) → 0 < m.0.share → place < NOWHERE
    → Allows (IsLawfulBoard extent) slots id m 1 (λ n. min n place) (TellsReport (step slots 1 place 0 none) m)
reports extent slots id m place own fits s h homes at small =
    let l : ℕ = least_of s in
    let w : View = with_reported m.0 place in
    let ws : List ℕ = set s.words 1 (min l place) in
    let here : get_or ws 1 0 ≡ min l place = get_or-set_same s.words 1 (min l place) 0 (omega (arith, h.two)) in
    let there : get_or ws 0 0 ≡ next_of s = get_or-set_other s.words 1 0 (min l place) 0 (omega arith) in (
      w,
      keeps,
      tt,
      record {
        small = h.small;
        two = length-set s.words 1 (min l place) ∙ h.two;
        numbers = subst (λ (n : ℕ). NumbersAreLawful extent n (set s.views id w)) (sym there) (numbers_same extent (next_of s) id m.0 w s.views at own refl refl refl refl h.numbers);
        places = subst (λ (y : ℕ). PlacesAreLawful y (set s.views id w)) (sym here) (report_places l id place m.0 s.views at fits h.places);
      },
      (refl, refl),
    )

look_places : (l id : ℕ) (v : View) (views : List View) → get_elem? views id ≡ some v → l < NOWHERE → PlacesAreLawful l views → PlacesAreLawful l (set views id (with_seen v l))
look_places l id v views at small p =
    let w : View = with_seen v l in
    let more : (x : ℕ) → seen_in x (set views id w) ≡ seen_in x views + times x (l ∷ []) = λ x. omega (arith, total-set (λ u. times x u.seen) views id v w at, times-append x v.seen (l ∷ [])) in
    let same : (x : ℕ) → reported_in x (set views id w) ≡ reported_in x views = λ x. omega (arith, total-set (λ u. times x u.reported) views id v w at) in
    record {
      below = λ x h. p.below x (omega (arith, same x));
      reported = ⊎_elim (λ (e : l ≡ NOWHERE). inl e) (λ (h : 0 < reported_in l views). inr (omega (arith, same l))) p.reported;
      seen = λ x h. dite (ℕ_discrete l x)
          (λ e. ⊎_elim (λ (n : l ≡ NOWHERE). absurd (omega arith)) (λ (r : 0 < reported_in l views). subst (λ (y : ℕ). 0 < reported_in y (set views id w)) e (let g : 0 < reported_in l (set views id w) = omega (arith, same l) in g)) p.reported)
          (λ ne. omega (arith, same x, p.seen x (omega (arith, more x, times-other x l ne))));
    }

-- what the least place is to a seat's own places
own_places : (l id : ℕ) (v : View) (views : List View) → get_elem? views id ≡ some v → PlacesAreLawful l views
    → All (λ x. (l ≤ x) × (x < NOWHERE)) v.reported × All (λ x. (l ≤ x) × (x < NOWHERE)) v.seen
own_places l id v views at p = (
  all_from (λ x. (l ≤ x) × (x < NOWHERE)) v.reported (λ x h. p.below x (omega (arith, term_le (λ u. times x u.reported) views id v at))),
  all_from (λ x. (l ≤ x) × (x < NOWHERE)) v.seen (λ x h. p.below x (p.seen x (omega (arith, term_le (λ u. times x u.seen) views id v at)))),
)

-- the least place is never above NOWHERE
top : (l : ℕ) (views : List View) → PlacesAreLawful l views → NOWHERE ≤ l → l ≡ NOWHERE
top l views p h = ⊎_elim (λ (e : l ≡ NOWHERE). e) (λ (r : 0 < reported_in l views). let q = p.below l r in absurd (omega (arith, q.1))) p.reported

pub looks : (extent : Extent) (slots id : ℕ) (m : SeatState) → 0 < m.0.share → Allows (IsLawfulBoard extent) slots id m 1 (λ n. n) (TellsLook (step slots 1 0 0 none) m)
looks extent slots id m own s h homes at small =
    let l : ℕ = least_of s in
    let same : set s.words 1 l ≡ s.words = set-get_or s.words 1 0 in
    let mine = own_places l id m.0 s.views at h.places in
    dite (dec_le NOWHERE l)
    (λ le. (
      m.0,
      keeps,
      tt,
      subst (λ (q : List ℕ × List View). IsLawfulBoard extent record { words = q.0; homes = s.homes; views = q.1 }) (λ i. (sym same i, sym (set_again s.views id m.0 at) i)) h,
      (refl, mine.0, mine.1, (λ lt. absurd (omega arith)), λ _. (refl, top l s.views h.places le)),
    ))
    (λ lt. let w : View = with_seen m.0 l in (
      w,
      keeps,
      tt,
      subst (λ (ws : List ℕ). IsLawfulBoard extent record { words = ws; homes = s.homes; views = set s.views id w }) (sym same)
          record {
            small = h.small;
            two = h.two;
            numbers = numbers_same extent (next_of s) id m.0 w s.views at own refl refl refl refl h.numbers;
            places = look_places l id m.0 s.views at (omega arith) h.places;
          },
      (refl, mine.0, mine.1, (λ _. refl), λ le. absurd (omega arith)),
    ))
