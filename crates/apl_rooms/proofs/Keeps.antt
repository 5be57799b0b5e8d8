-- Each step keeps the rule.
use Rattle.std.proofs.Common.{◌≡◌, ◌≢◌, ℕ, zero, suc, ◌+◌, ◌<◌, ◌==◌, cond, Bool, true, false, List, [], ◌∷◌, ◌++◌, length, set, get_or, Option, sym, refl, ap, subst, ◌∙◌, arith, ⊎_elim, length-set, get_or-set_same, get_or-set_other, slice_index, MatchBool, eq-eqb, ne_eqb}
use Rattle.std.proofs.lemmas.Bool.Decides.{nat_tests}
use Rattle.std.proofs.lemmas.List.{set-get_or}
use mathlib.Core.Logic.{dite}
use native.Mathlib.Decide.{ℕ_discrete}
use native.Mathlib.Nat.{not-suc-le-zero, le_of_suc-le-suc}
use mathlib.Core.Option.{some, none, some-injective, some-ne-none}
use lib.ListN.{get_elem?}
use prog.Atomic.{either}
use Rattle.atomic_table.specs.Table.{State, Me, Act, Valid, stepped, step, keeps, takes, gives, carried_after, Allows, Splits, Joins, Final, Seen}
use Rattle.atomic_table.proofs.Lists.{at_set, at_snoc, set_again, set_else, set_here}
use Rattle.apl_rooms.specs.declared.room.Room.{Room}
use Rattle.apl_rooms.specs.declared.view.View.{View}
use Rattle.apl_rooms.specs.Views.{times, with_out, with_none, rest_of, part_of, joined, spent}
use Rattle.apl_rooms.specs.Rule.{total, IsSameRoom, IsRightRoom, IsLawfulSeat, IsLawful}
use Rattle.apl_rooms.specs.Steps.{taken, laid}
use Rattle.apl_rooms.proofs.Totals.{times-append, times-same, times-other, total-snoc, total-set, whole}

there : {A : Type 0} (l : List A) (i : ℕ) → i < length l → (a : A) × (get_elem? l i ≡ some a)
there [] i lt = absurd (not-suc-le-zero lt)
there (x ∷ xs) zero lt = (x, refl)
there (x ∷ xs) (suc i) lt = there xs i (le_of_suc-le-suc lt)

pub inside_of : {A : Type 0} (l : List A) (i : ℕ) (a : A) → get_elem? l i ≡ some a → i < length l
inside_of [] i a e = absurd (some-ne-none a (sym e))
inside_of (x ∷ xs) zero a e = omega arith
inside_of (x ∷ xs) (suc i) a e = omega (arith, inside_of xs i a e)

-- 1 for a word that says that its room is out
abbrev pub is_out : ℕ → ℕ
is_out word = cond (word == 1) 1 0

out_is : (word : ℕ) → word ≡ 1 → is_out word ≡ 1
out_is word e = ap (λ (b : Bool). cond b 1 0) (eq-eqb word 1 e)

out_isnt : (word : ℕ) → word ≢ 1 → is_out word ≡ 0
out_isnt word ne = ap (λ (b : Bool). cond b 1 0) (ne_eqb word 1 ne)

module _ {X : Type 0} where
  each_set : (F : View X → Type 0) (views : List (View X)) (id : ℕ) (w : View X) → F w → ((j : ℕ) (u : View X) → get_elem? views j ≡ some u → F u) → (j : ℕ) (u : View X) → get_elem? (set views id w) j ≡ some u → F u
  each_set F views id w mine others j u e = ⊎_elim (λ (x : (j ≡ id) × (w ≡ u)). subst F x.1 mine) (λ (x : (j ≢ id) × (get_elem? views j ≡ some u)). others j u x.1) (at_set views id j w u e)

  each_snoc : (F : View X → Type 0) (views : List (View X)) (w : View X) → F w → ((j : ℕ) (u : View X) → get_elem? views j ≡ some u → F u) → (j : ℕ) (u : View X) → get_elem? (views ++ w ∷ []) j ≡ some u → F u
  each_snoc F views w mine others j u e = ⊎_elim (λ (x : get_elem? views j ≡ some u). others j u x) (λ (x : w ≡ u). subst F x mine) (at_snoc views w u j e)

  module _ (is_right : ℕ → List X → Type 0) (seats : ℕ) (rooms : List (Option (Room X))) where
    module _ (id number : ℕ) (m : Me (Option (Room X)) (View X)) (s : State (Option (Room X)) (View X)) (h : IsLawful is_right seats rooms s) (at : get_elem? s.views id ≡ some m.0) (inside : number < length rooms) (own : 0 < m.0.share) where
      abbrev found : ℕ
      found = slice_index s.words number

      abbrev Told : Bool → Me (Option (Room X)) (View X) → Type 0
      Told b n = MatchBool b
          ((y : Option (Room X)) × (x : Option (Room X)) × (get_elem? m.0.rooms number ≡ some y) × IsSameRoom y x × (n.1 ≡ (number, x) ∷ m.1) × (n.0 ≡ with_out m.0 number))
          (n ≡ m)

      goes : (b : Bool) → (found == 0) ≡ b → (w : View X) × (a : Act (Option (Room X))) × Valid s.homes m.1 a × IsLawful is_right seats rooms (stepped s number (either b 1 found) id m.1 w a) × Told b (w, carried_after m.1 a)
      goes true is =
          let here : found ≡ 0 = grind (arith, nat_tests) in
          let mine : m.0.rooms ≡ rooms = (h.each id m.0 at).rooms_are own in
          let y = there rooms number inside in
          let home = h.home number y.0 y.1 (λ (e : found ≡ 1). absurd (omega arith)) in
          let w : View X = with_out m.0 number in
          let ws : List ℕ = set s.words number 1 in
          let now : get_or ws number 0 ≡ 1 = get_or-set_same s.words number 1 0 (omega (arith, h.words)) in
          let was : is_out found ≡ 0 = out_isnt found (λ (e : found ≡ 1). absurd (omega arith)) in (
            w,
            takes number home.0,
            home.1,
            record {
              words = length-set s.words number 1 ∙ h.words;
              shares = omega (arith, total-set (λ u. u.share) s.views id m.0 w at, h.shares);
              each = each_set (IsLawfulSeat rooms) s.views id w record { rooms_are = λ _. mine; idle = λ z. absurd (omega arith) } h.each;
              out = λ k lt. let sum = total-set (λ u. times k u.out) s.views id m.0 w at in
                  dite (ℕ_discrete number k)
                  (λ e. let more : times k (number ∷ []) ≡ 1 = subst (λ (j : ℕ). times k (j ∷ []) ≡ 1) (sym e) (times-same k) in
                  let none_out : total (λ u. times k u.out) s.views ≡ 0 = subst (λ (j : ℕ). total (λ u. times j u.out) s.views ≡ 0) e (h.out number inside ∙ was) in
                  let after : is_out (get_or ws k 0) ≡ 1 = out_is (get_or ws k 0) (subst (λ (j : ℕ). get_or ws j 0 ≡ 1) e now) in
                  omega (arith, sum, more, none_out, after))
                  (λ ne. let same_word : get_or ws k 0 ≡ get_or s.words k 0 = get_or-set_other s.words number k 1 0 (λ (e : k ≡ number). ne (sym e)) in
                  let none_more : times k (number ∷ []) ≡ 0 = times-other k number ne in
                  omega (arith, sum, none_more, h.out k lt, ap is_out same_word));
              home = λ k z e not_out.
                  dite (ℕ_discrete k number)
                  (λ same. absurd (not_out (subst (λ (j : ℕ). get_or ws j 0 ≡ 1) (sym same) now)))
                  (λ other. let same_word : get_or ws k 0 ≡ get_or s.words k 0 = get_or-set_other s.words number k 1 0 other in
                  let old = h.home k z e (λ q. not_out (same_word ∙ q)) in
                  (old.0, set_else s.homes number k none other ∙ old.1, old.2, λ q. old.3 (sym same_word ∙ q)));
            },
            (y.0, home.0, subst (λ (l : List (Option (Room X))). get_elem? l number ≡ some y.0) (sym mine) y.1, home.2, refl, refl),
          )
      goes false is = (
        m.0,
        keeps,
        tt,
        subst (λ (q : List ℕ × List (View X)). IsLawful is_right seats rooms record { words = q.0; homes = s.homes; views = q.1 }) (λ i. (sym (set-get_or s.words number 0) i, sym (set_again s.views id m.0 at) i)) h,
        refl,
      )

    -- a room that is at home may be taken
    pub takes_one : (slots id number : ℕ) (m : Me (Option (Room X)) (View X)) → number < length rooms → 0 < m.0.share
        → Allows (IsLawful is_right seats rooms) slots id m number (λ n. either (n == 0) 1 n) (taken (step slots number 0 1 none) m)
    takes_one slots id number m inside own s h homes at small = goes id number m s h at inside own (slice_index s.words number == 0) refl

    lays_at : (slots id number word : ℕ) (v : View X) (y x : Option (Room X)) → slots ≡ length rooms → number < length rooms → 0 < v.share → v.out ≡ number ∷ [] → get_elem? v.rooms number ≡ some y → IsSameRoom y x
        → word ≢ 1 → (word ≡ 2 → IsRightRoom (is_right number) x) → Allows (IsLawful is_right seats rooms) slots id (v, (number, x) ∷ []) number (λ _. word) (λ _. laid (step slots number word 0 none) (v, (number, x) ∷ []) word)
    lays_at slots id number word v y x many inside own mine_out its same not_out right s h homes at small =
        let w : View X = with_none v in
        let ws : List ℕ = set s.words number word in
        let now : get_or ws number 0 ≡ word = get_or-set_same s.words number word 0 (omega (arith, h.words)) in
        let mine : v.rooms ≡ rooms = (h.each id v at).rooms_are own in
        let its_own : get_elem? rooms number ≡ some y = subst (λ (l : List (Option (Room X))). get_elem? l number ≡ some y) mine its in (
          w,
          gives,
          tt,
          record {
            words = length-set s.words number word ∙ h.words;
            shares = omega (arith, total-set (λ u. u.share) s.views id v w at, h.shares);
            each = each_set (IsLawfulSeat rooms) s.views id w record { rooms_are = λ _. mine; idle = λ z. refl } h.each;
            out = λ k lt. let sum = total-set (λ u. times k u.out) s.views id v w at in let was_out = ap (times k) mine_out in
                dite (ℕ_discrete number k)
                (λ e. let one : times k (number ∷ []) ≡ 1 = subst (λ (j : ℕ). times k (j ∷ []) ≡ 1) (sym e) (times-same k) in
                let few = h.out k lt in
                let after : is_out (get_or ws k 0) ≡ 0 = out_isnt (get_or ws k 0) (λ (q : get_or ws k 0 ≡ 1). not_out (sym (subst (λ (j : ℕ). get_or ws j 0 ≡ word) e now) ∙ q)) in
                at_most (get_or s.words k 0 == 1) (total (λ u. times k u.out) (set s.views id w)) (times k v.out) (total (λ u. times k u.out) s.views) sum (was_out ∙ one) few ∙ sym after)
                (λ ne. let same_word : get_or ws k 0 ≡ get_or s.words k 0 = get_or-set_other s.words number k word 0 (λ (e : k ≡ number). ne (sym e)) in
                omega (arith, sum, was_out, times-other k number ne, h.out k lt, ap is_out same_word));
            home = λ k z e not_out_now.
                dite (ℕ_discrete k number)
                (λ here.
                let z_is : z ≡ y = some-injective z y (sym e ∙ subst (λ (j : ℕ). get_elem? rooms j ≡ some y) (sym here) its_own) in
                let back : get_elem? (set s.homes number (some x)) k ≡ some (some x) = subst (λ (j : ℕ). get_elem? (set s.homes number (some x)) j ≡ some (some x)) (sym here) (set_here s.homes number (some x) (omega (arith, homes))) in
                let word_is : get_or ws k 0 ≡ word = subst (λ (j : ℕ). get_or ws j 0 ≡ word) (sym here) now in
                (x, back, subst (λ (a : Option (Room X)). IsSameRoom a x) (sym z_is) same, λ q. subst (λ (j : ℕ). IsRightRoom (is_right j) x) (sym here) (right (sym word_is ∙ q))))
                (λ other. let same_word : get_or ws k 0 ≡ get_or s.words k 0 = get_or-set_other s.words number k word 0 other in
                let old = h.home k z e (λ q. not_out_now (same_word ∙ q)) in
                (old.0, set_else s.homes number k (some x) other ∙ old.1, old.2, λ q. old.3 (sym same_word ∙ q)));
          },
          (refl, refl),
        ) where
          at_most : (b : Bool) (after mine before : ℕ) → after + mine ≡ before + 0 → mine ≡ 1 → before ≡ cond b 1 0 → after ≡ 0
          at_most true after mine before e one b = omega arith
          at_most false after mine before e one b = omega arith

    -- a room that is out may be laid back
    pub lays_one : (slots id number word : ℕ) (m : Me (Option (Room X)) (View X)) (v : View X) (y x : Option (Room X)) → m ≡ (v, (number, x) ∷ []) → slots ≡ length rooms → number < length rooms → 0 < v.share
        → v.out ≡ number ∷ [] → get_elem? v.rooms number ≡ some y → IsSameRoom y x → word ≢ 1 → (word ≡ 2 → IsRightRoom (is_right number) x)
        → Allows (IsLawful is_right seats rooms) slots id m number (λ _. word) (λ _. laid (step slots number word 0 none) m word)
    lays_one slots id number word m v y x e many inside own mine_out its same not_out right =
        subst (λ (n : Me (Option (Room X)) (View X)). Allows (IsLawful is_right seats rooms) slots id n number (λ _. word) (λ _. laid (step slots number word 0 none) n word)) (sym e) (lays_at slots id number word v y x many inside own mine_out its same not_out right)

    pub splits_one : (id : ℕ) (v : View X) → 1 < v.share → Splits (IsLawful is_right seats rooms) id v (rest_of v) (part_of v)
    splits_one id v several s h at =
        let left : View X = rest_of v in
        let right : View X = part_of v in
        let views : List (View X) = set s.views id left in
        let mine : v.rooms ≡ rooms = (h.each id v at).rooms_are (omega arith) in
        let both : (g : View X → ℕ) → total g (views ++ right ∷ []) + g v ≡ total g s.views + g left + g right = λ g. omega (arith, total-snoc g views right, total-set g s.views id v left at) in
        record {
          words = h.words;
          shares = omega (arith, both (λ u. u.share), h.shares);
          each = each_snoc (IsLawfulSeat rooms) views right record { rooms_are = λ _. mine; idle = λ z. refl } (each_set (IsLawfulSeat rooms) s.views id left record { rooms_are = λ _. mine; idle = λ z. absurd (omega arith) } h.each);
          out = λ k lt. omega (arith, both (λ u. times k u.out), h.out k lt);
          home = h.home;
        }

    pub joins_two : (id other : ℕ) (v w : View X) → 0 < v.share → Joins (IsLawful is_right seats rooms) id v other w (joined v w) spent
    joins_two id other v w own s h at two at' =
        let both : View X = joined v w in
        let mid : List (View X) = set s.views id both in
        let views : List (View X) = set mid other spent in
        let mine : v.rooms ≡ rooms = (h.each id v at).rooms_are own in
        let sum : (g : View X → ℕ) → g spent ≡ 0 → total g views + g v + g w ≡ total g s.views + g both = λ g z. omega (arith, z, total-set g s.views id v both at, total-set g mid other w spent at') in
        record {
          words = h.words;
          shares = omega (arith, sum (λ u. u.share) refl, h.shares);
          each = each_set (IsLawfulSeat rooms) mid other spent record { rooms_are = λ z. absurd (omega arith); idle = λ z. refl } (each_set (IsLawfulSeat rooms) s.views id both record { rooms_are = λ _. mine; idle = λ z. absurd (omega arith) } h.each);
          out = λ k lt. omega (arith, sum (λ u. times k u.out) refl, times-append k v.out w.out, h.out k lt);
          home = h.home;
        }

    all_home : (s : State (Option (Room X)) (View X)) (id : ℕ) (v : View X) → IsLawful is_right seats rooms s → get_elem? s.views id ≡ some v → v.share ≡ seats → v.out ≡ [] → (n : ℕ) (y : Option (Room X)) → get_elem? rooms n ≡ some y
        → (x : Option (Room X)) × (get_elem? s.homes n ≡ some (some x)) × IsSameRoom y x × (slice_index s.words n ≡ 2 → IsRightRoom (is_right n) x)
    all_home s id v h at all none_out n y e =
        let alone : total (λ u. times n u.out) s.views ≡ times n v.out = whole (λ u. u.share) (λ u. times n u.out) s.views id v at (h.shares ∙ sym all) (λ i u q z. ap (times n) ((h.each i u q).idle z)) in
        let none_here : is_out (slice_index s.words n) ≡ 0 = sym (h.out n (inside_of rooms n y e)) ∙ alone ∙ ap (times n) none_out in
        h.home n y e (λ q. absurd (omega (arith, out_is (slice_index s.words n) q, none_here)))

    -- at the end each room is back, where one seat has all shares and no room is out with it
    pub all_back : (id : ℕ) (v : View X) (ws : List ℕ) (xs : List (Option (Room X))) → v.share ≡ seats → v.out ≡ [] → Final (Seen (IsLawful is_right seats rooms) id v) ws xs → (n : ℕ) (y : Option (Room X)) → get_elem? rooms n ≡ some y
        → (x : Option (Room X)) × (get_elem? xs n ≡ some x) × IsSameRoom y x × (slice_index ws n ≡ 2 → IsRightRoom (is_right n) x)
    all_back id v ws xs all none_out f n y e =
        let s = f.0 in
        let at_home = all_home s id v f.1.0 f.1.1 all none_out n y e in
        (at_home.0, f.4 n at_home.0 at_home.1, at_home.2, λ q. at_home.3 (ap (λ (l : List ℕ). slice_index l n) f.2 ∙ q))
