-- Each step keeps the rule of a deque.
use Rattle.std.proofs.Common.{◌≡◌, ℕ, zero, suc, ◌+◌, ◌<◌, ◌≤◌, ◌≢◌, cond, All, AllPairs, List, [], ◌∷◌, ◌++◌, length, get_or, set, sym, refl, ap, ◌∙◌, subst, ⊎_elim, arith, eq-eqb, ne_eqb, lt-ltb, le-ltb, append_assoc, length-append, length-set}
use mathlib.Core.Logic.{dite}
use native.Mathlib.Decide.{ℕ_discrete, dec_le}
use mathlib.Core.Option.{some, some-injective, some-ne-none}
use lib.ListN.{get_elem?}
use Rattle.crossbeam_deque.specs.Tasks.{Pushes, Takes, Forks}
use Rattle.crossbeam_deque.specs.declared.steal.Steal.{Steal}
use Rattle.crossbeam_deque.specs.declared.steal.Steal.TheVariants.{Empty, Success, Retry}
use Rattle.crossbeam_deque.specs.Steals.{MatchSteal}
use Rattle.crossbeam_deque.proofs.Lists.{at_set, at_snoc, at_longer, set_here, set_else}
use Rattle.apl_yard.specs.declared.rule.TakerView.{TakerView}
use Rattle.apl_yard.specs.Views.{opening_view, with_pushed, with_taken, with_thief}
use Rattle.apl_yard.specs.Rule.{times_at, times_taken, once_below, IsTakenFrom, IsDequeState, IsPossible, PushTells, PopTells, StealTells}

times-set : (p : ℕ) (l : List TakerView) (j : ℕ) (v w : TakerView) → get_elem? l j ≡ some v → times_taken p (set l j w) + times_at p v.taken ≡ times_taken p l + times_at p w.taken
times-set p [] j v w e = absurd (some-ne-none v (sym e))
times-set p (x ∷ xs) zero v w e = omega (arith, ap (λ (y : TakerView). times_at p y.taken) (some-injective x v e))
times-set p (x ∷ xs) (suc j) v w e = omega (arith, times-set p xs j v w e)

times-snoc : (p : ℕ) (l : List TakerView) (w : TakerView) → times_taken p (l ++ w ∷ []) ≡ times_taken p l + times_at p w.taken
times-snoc p [] w = omega arith
times-snoc p (x ∷ xs) w = omega (arith, times-snoc p xs w)

term_le : (p : ℕ) (l : List TakerView) (j : ℕ) (v : TakerView) → get_elem? l j ≡ some v → times_at p v.taken ≤ times_taken p l
term_le p [] j v e = absurd (some-ne-none v (sym e))
term_le p (x ∷ xs) zero v e = omega (arith, ap (λ (y : TakerView). times_at p y.taken) (some-injective x v e))
term_le p (x ∷ xs) (suc j) v e = omega (arith, term_le p xs j v e)

times-append : (p : ℕ) (xs ys : List (ℕ × ℕ)) → times_at p (xs ++ ys) ≡ times_at p xs + times_at p ys
times-append p [] ys = omega arith
times-append p (t ∷ xs) ys = omega (arith, times-append p xs ys)

one_same : (p x : ℕ) → times_at p ((p, x) ∷ []) ≡ 1
one_same p x = ap (λ b. cond b 1 0 + 0) (eq-eqb p p refl)

one_other : (p q x : ℕ) → q ≢ p → times_at p ((q, x) ∷ []) ≡ 0
one_other p q x n = ap (λ b. cond b 1 0 + 0) (ne_eqb q p n)

below_yes : (x n : ℕ) → x < n → once_below x n ≡ 1
below_yes x n h = ap (λ b. cond b 1 0) (lt-ltb x n h)

below_no : (x n : ℕ) → n ≤ x → once_below x n ≡ 0
below_no x n h = ap (λ b. cond b 1 0) (le-ltb x n h)

below_next : (p n x : ℕ) → once_below p (n + 1) ≡ once_below p n + times_at p ((n, x) ∷ [])
below_next p n x =
    dite (ℕ_discrete n p)
    (λ e. omega (arith, below_yes p (n + 1) (omega arith), below_no p n (omega arith), ap (λ m. times_at p ((m, x) ∷ [])) e, one_same p x))
    (λ ne. dite (dec_le n p)
    (λ le. let far : n + 1 ≤ p = omega arith in omega (arith, below_no p (n + 1) far, below_no p n le, one_other p n x ne))
    (λ lt. omega (arith, below_yes p (n + 1) (omega arith), below_yes p n (omega arith), one_other p n x ne)))

below_some : (p n : ℕ) → 0 < once_below p n → p < n
below_some p n h = dite (dec_le n p) (λ le. absurd (omega (arith, below_no p n le))) (λ lt. omega arith)

-- what holds of each position at which a piece was taken
positions : (P : ℕ → Type 0) (ts : List (ℕ × ℕ)) → ((p : ℕ) → 0 < times_at p ts → P p) → All (λ t. P t.0) ts
positions P [] h k d l = absurd (omega arith)
positions P (t ∷ ts) h zero d l = h t.0 (omega (arith, one_same t.0 t.1))
positions P (t ∷ ts) h (suc k) d l = positions P ts (λ p q. h p (omega arith)) k d (omega arith)

all_snoc : (P : ℕ × ℕ → Type 0) (ts : List (ℕ × ℕ)) (t : ℕ × ℕ) → All P ts → P t → All P (ts ++ t ∷ [])
all_snoc P [] t h last zero d l = last
all_snoc P [] t h last (suc k) d l = absurd (omega arith)
all_snoc P (u ∷ ts) t h last zero d l = h 0 d (omega arith)
all_snoc P (u ∷ ts) t h last (suc k) d l = all_snoc P ts t (λ j e m. h (suc j) e (omega arith)) last k d (omega arith)

all_map : (P Q : ℕ × ℕ → Type 0) (ts : List (ℕ × ℕ)) → ((t : ℕ × ℕ) → P t → Q t) → All P ts → All Q ts
all_map P Q ts f h k d l = f (get_or ts k d) (h k d l)

pairs_snoc : (ts : List (ℕ × ℕ)) (t : ℕ × ℕ) → AllPairs (λ a b. a.0 < b.0) ts → All (λ a. a.0 < t.0) ts → AllPairs (λ a b. a.0 < b.0) (ts ++ t ∷ [])
pairs_snoc [] t h last zero j d lt l = absurd (omega (arith, l))
pairs_snoc [] t h last (suc i) j d lt l = absurd (omega (arith, l))
pairs_snoc (u ∷ ts) t h last zero zero d lt l = absurd (omega arith)
pairs_snoc (u ∷ ts) t h last zero (suc j) d lt l = all_snoc (λ b. u.0 < b.0) ts t (λ k e m. h 0 (suc k) e (omega arith) (omega arith)) (last 0 d (omega arith)) j d (omega arith)
pairs_snoc (u ∷ ts) t h last (suc i) zero d lt l = absurd (omega arith)
pairs_snoc (u ∷ ts) t h last (suc i) (suc j) d lt l = pairs_snoc ts t (λ a b e m n. h (suc a) (suc b) e (omega arith) (omega arith)) (λ k e m. last (suc k) e (omega arith)) i j d (omega arith) (omega arith)

at_append : (xs ys : List ℕ) (y : ℕ) → get_elem? (xs ++ y ∷ ys) (length xs) ≡ some y
at_append [] ys y = refl
at_append (x ∷ xs) ys y = at_append xs ys y

each_set : (F : TakerView → Type 0) (views : List TakerView) (id : ℕ) (w : TakerView) → F w → ((j : ℕ) (u : TakerView) → get_elem? views j ≡ some u → F u) → (j : ℕ) (u : TakerView) → get_elem? (set views id w) j ≡ some u → F u
each_set F views id w mine others j u e = ⊎_elim (λ (x : (j ≡ id) × (w ≡ u)). subst F x.1 mine) (λ (x : (j ≢ id) × (get_elem? views j ≡ some u)). others j u x.1) (at_set views id j w u e)

each_snoc : (F : TakerView → Type 0) (views : List TakerView) (w : TakerView) → F w → ((j : ℕ) (u : TakerView) → get_elem? views j ≡ some u → F u) → (j : ℕ) (u : TakerView) → get_elem? (views ++ w ∷ []) j ≡ some u → F u
each_snoc F views w mine others j u e = ⊎_elim (λ (x : get_elem? views j ≡ some u). others j u x) (λ (x : w ≡ u). subst F x mine) (at_snoc views w u j e)

nothing_taken : (pushed : List ℕ) (thieves : ℕ) → IsTakenFrom pushed (opening_view thieves)
nothing_taken pushed thieves = ((λ k d l. absurd (omega arith)), λ i j d lt l. absurd (omega arith))

there : (l : List TakerView) (i : ℕ) (v : TakerView) → get_elem? l i ≡ some v → i < length l
there [] i v e = absurd (some-ne-none v (sym e))
there (x ∷ xs) zero v e = omega arith
there (x ∷ xs) (suc i) v e = omega (arith, there xs i v e)

same_owner : (views : List TakerView) (v w : TakerView) → get_elem? views 0 ≡ some v → get_elem? views 0 ≡ some w → v ≡ w
same_owner views v w a b = some-injective v w (sym a ∙ b)

-- a new deque
pub begins : IsDequeState [] (opening_view 0 ∷ [])
begins = record {
  owner = opening_view 0;
  owner_is_first = refl;
  ends = refl;
  gone = [];
  pushed = refl;
  once = λ p. omega (arith, below_no p 0 (omega arith));
  each = each_snoc (IsTakenFrom []) [] (opening_view 0) (nothing_taken [] 0) (λ j u e. absurd (some-ne-none u (sym e)));
}

-- what a new thief knows
pub opening_possible : IsPossible (opening_view 0)
opening_possible = ∣ ([], opening_view 0 ∷ [], 0, begins, refl) ∣₁

-- the owner pushes
pushes : (v : TakerView) (x : ℕ) → Pushes IsDequeState 0 v (x ∷ []) (PushTells v (x ∷ []))
pushes v x items views h at =
    let w : TakerView = with_pushed v x in
    let me : h.owner ≡ v = same_owner views h.owner v h.owner_is_first at in
    let longer : w.pushed ≡ h.gone ++ (items ++ x ∷ []) = ap (λ l. l ++ x ∷ []) (ap (λ (y : TakerView). y.pushed) (sym me) ∙ h.pushed) ∙ append_assoc h.gone items (x ∷ []) in
    let kept : (j : ℕ) (u : TakerView) → get_elem? views j ≡ some u → IsTakenFrom w.pushed u = λ j u e. (
      all_map (λ t. get_elem? h.owner.pushed t.0 ≡ some t.1) (λ t. get_elem? w.pushed t.0 ≡ some t.1) u.taken
          (λ t f. at_longer v.pushed (x ∷ []) t.0 t.1 (ap (λ (y : TakerView). get_elem? y.pushed t.0) (sym me) ∙ f)) (h.each j u e).0,
      (h.each j u e).1,
    ) in (
      w,
      record {
        owner = w;
        owner_is_first = set_here views 0 w (there views 0 v at);
        ends = length-set views 0 w ∙ h.ends ∙ ap (λ (y : TakerView). y.thieves + 1) me;
        gone = h.gone;
        pushed = longer;
        once = λ p. omega (arith, times-set p views 0 v w at, h.once p);
        each = each_set (IsTakenFrom w.pushed) views 0 w (kept 0 v at) kept;
      },
      refl,
    )

-- the end id takes the first piece
takes_one : (id : ℕ) (v : TakerView) (x : ℕ) (items : List ℕ) (views : List TakerView) (h : IsDequeState (x ∷ items) views) → get_elem? views id ≡ some v
    → IsDequeState items (set views id (with_taken v (length h.gone) x)) × All (λ t. t.0 < length h.gone) v.taken
takes_one id v x items views h at =
    let p : ℕ = length h.gone in
    let w : TakerView = with_taken v p x in
    let before : All (λ t. t.0 < p) v.taken = positions (λ q. q < p) v.taken (λ q s. below_some q p (omega (arith, term_le q views id v at, h.once q))) in
    let here : get_elem? h.owner.pushed p ≡ some x = ap (λ (l : List ℕ). get_elem? l p) h.pushed ∙ at_append h.gone items x in
    let mine = h.each id v at in
    let new : IsTakenFrom h.owner.pushed w = (all_snoc (λ t. get_elem? h.owner.pushed t.0 ≡ some t.1) v.taken (p, x) mine.0 here, pairs_snoc v.taken (p, x) mine.1 before) in
    let owner : (o : TakerView) × (get_elem? (set views id w) 0 ≡ some o) × (o.pushed ≡ h.owner.pushed) × (o.thieves ≡ h.owner.thieves) = dite (ℕ_discrete 0 id)
    (λ e. let same : h.owner ≡ v = same_owner views h.owner v h.owner_is_first (ap (λ (i : ℕ). get_elem? views i) e ∙ at) in
    (w, ap (λ (i : ℕ). get_elem? (set views id w) i) e ∙ set_here views id w (there views id v at), ap (λ (y : TakerView). y.pushed) (sym same), ap (λ (y : TakerView). y.thieves) (sym same)))
    (λ n. (h.owner, set_else views id 0 w n ∙ h.owner_is_first, refl, refl)) in (
      record {
        owner = owner.0;
        owner_is_first = owner.1;
        ends = length-set views id w ∙ h.ends ∙ ap (λ (n : ℕ). n + 1) (sym owner.3);
        gone = h.gone ++ x ∷ [];
        pushed = owner.2 ∙ h.pushed ∙ sym (append_assoc h.gone (x ∷ []) items);
        once = λ q. let e : length (h.gone ++ x ∷ []) ≡ p + 1 = length-append h.gone (x ∷ []) in
            omega (arith, times-set q views id v w at, times-append q v.taken ((p, x) ∷ []), h.once q, below_next q p x, ap (once_below q) e);
        each = subst (λ (l : List ℕ). (j : ℕ) (u : TakerView) → get_elem? (set views id w) j ≡ some u → IsTakenFrom l u) (sym owner.2) (each_set (IsTakenFrom h.owner.pushed) views id w new h.each);
      },
      before,
    )

-- a thief takes
pub steals : (id : ℕ) (v : TakerView) → Takes IsDequeState id v 1 (StealTells v)
steals id v [] items views any few h at = absurd (omega arith)
steals id v (x ∷ []) items views any few h at =
    let p : ℕ = length h.gone in
    let w : TakerView = with_taken v p x in
    let q = takes_one id v x items views h at in
    (w, q.0, ((p, (refl, q.1)), ∣ (items, set views id w, id, q.0, set_here views id w (there views id v at)) ∣₁))
steals id v (x ∷ y ∷ xs) items views any few h at = absurd (omega arith)

-- what a thief knows after a try
pub still_possible : (old new : TakerView) (answer : Steal ℕ) (P Q : Type 0) → IsPossible old
    → MatchSteal answer ((new ≡ old) × P) ((new ≡ old) × Q) (λ x. StealTells old (x ∷ []) new) → IsPossible new
still_possible old new Empty P Q possible tells = subst IsPossible (sym tells.0) possible
still_possible old new (Success x) P Q possible tells = tells.1
still_possible old new Retry P Q possible tells = subst IsPossible (sym tells.0) possible

-- the owner takes
pops : (v : TakerView) → Takes IsDequeState 0 v 1 (PopTells v)
pops v [] items views any few h at = absurd (omega arith)
pops v (x ∷ []) items views any few h at =
    let q = takes_one 0 v x items views h at in
    let me : h.owner ≡ v = same_owner views h.owner v h.owner_is_first at in
    let there_pushed : get_elem? v.pushed (length h.gone) ≡ some x = ap (λ (y : TakerView). get_elem? y.pushed (length h.gone)) (sym me) ∙ ap (λ (l : List ℕ). get_elem? l (length h.gone)) h.pushed ∙ at_append h.gone items x in
    (with_taken v (length h.gone) x, q.0, (length h.gone, (refl, q.1), there_pushed))
pops v (x ∷ y ∷ xs) items views any few h at = absurd (omega arith)

-- the owner lets a thief in
hires : (v : TakerView) → Forks IsDequeState 0 v (with_thief v) (opening_view 0)
hires v items views h at =
    let w : TakerView = with_thief v in
    let me : h.owner ≡ v = same_owner views h.owner v h.owner_is_first at in
    let vs : List TakerView = set views 0 w in
    let kept : (j : ℕ) (u : TakerView) → get_elem? views j ≡ some u → IsTakenFrom w.pushed u = λ j u e. subst (λ (y : TakerView). IsTakenFrom y.pushed u) me (h.each j u e) in
    record {
      owner = w;
      owner_is_first = at_longer vs (opening_view 0 ∷ []) 0 w (set_here views 0 w (there views 0 v at));
      ends = length-append vs (opening_view 0 ∷ []) ∙ ap (λ (n : ℕ). n + 1) (length-set views 0 w ∙ h.ends ∙ ap (λ (y : TakerView). y.thieves + 1) me);
      gone = h.gone;
      pushed = ap (λ (y : TakerView). y.pushed) (sym me) ∙ h.pushed;
      once = λ p. omega (arith, times-snoc p vs (opening_view 0), times-set p views 0 v w at, h.once p);
      each = each_snoc (IsTakenFrom w.pushed) vs (opening_view 0) (nothing_taken w.pushed 0) (each_set (IsTakenFrom w.pushed) views 0 w (kept 0 v at) kept);
    }

-- The same at a port that is 0.
pub pushes_at : (port : ℕ) (v : TakerView) (x : ℕ) → port ≡ 0 → Pushes IsDequeState port v (x ∷ []) (PushTells v (x ∷ []))
pushes_at port v x e = subst (λ (i : ℕ). Pushes IsDequeState i v (x ∷ []) (PushTells v (x ∷ []))) (sym e) (pushes v x)

pub pops_at : (port : ℕ) (v : TakerView) → port ≡ 0 → Takes IsDequeState port v 1 (PopTells v)
pops_at port v e = subst (λ (i : ℕ). Takes IsDequeState i v 1 (PopTells v)) (sym e) (pops v)

pub hires_at : (port : ℕ) (v : TakerView) → port ≡ 0 → Forks IsDequeState port v (with_thief v) (opening_view 0)
hires_at port v e = subst (λ (i : ℕ). Forks IsDequeState i v (with_thief v) (opening_view 0)) (sym e) (hires v)
