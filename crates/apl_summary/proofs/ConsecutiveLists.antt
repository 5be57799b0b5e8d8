-- The sums of consecutive items: those of neighbouring lists are joined in any nesting, and they tell which lists are lawful.
use Rattle.std.proofs.Common.{◌≡◌, ℕ, zero, suc, ◌+◌, ◌≤◌, true, ℤ, pos, negsuc, ◌+ℤ◌, ◌-ℤ◌, ◌≤ℤ◌, List, [], ◌∷◌, ◌++◌, take, drop, length, refl, sym, ap, ◌∙◌, subst, arith}
use Rattle.std.proofs.lemmas.Int.{ints, clamps}
use Rattle.std.specs.Int.{int_min, int_max}
use Rattle.apl_summary.specs.declared.constants.Bounds.{Bounds}
use Rattle.apl_summary.specs.declared.consecutive_sums.ConsecutiveSums.{ConsecutiveSums}
use Rattle.apl_pool.specs.Summaries.{IsI64}
use Rattle.apl_summary.specs.Constants.{bounds, raised, of_both, are_in_range, IsWithin94Bits, IsSumOf}
use Rattle.apl_summary.proofs.SignedSums.{le_true, true_le, and_true, true_and}
use Rattle.apl_summary.specs.ConsecutiveSums.{total, IsLawful, consecutive_sums, sums_of_one, sums_of_both, sums_of, AreSumsOf, AreBoundsWithin94Bits, AreSumsWithin94Bits, AreBoundsOfSums, AreConsecutiveSums}

same_bounds : (a b c d : ℤ) → a ≡ c → b ≡ d → bounds a b ≡ bounds c d
same_bounds a b c d p q = ap (λ (x : ℤ). bounds x b) p ∙ ap (bounds c) q

add_least : (x y z : ℤ) → x +ℤ int_min y z ≡ int_min (x +ℤ y) (x +ℤ z)
add_least x y z = omega (arith, ints, clamps)

least_add : (x y z : ℤ) → int_min y z +ℤ x ≡ int_min (y +ℤ x) (z +ℤ x)
least_add x y z = omega (arith, ints, clamps)

add_greatest : (x y z : ℤ) → x +ℤ int_max y z ≡ int_max (x +ℤ y) (x +ℤ z)
add_greatest x y z = omega (arith, ints, clamps)

greatest_add : (x y z : ℤ) → int_max y z +ℤ x ≡ int_max (y +ℤ x) (z +ℤ x)
greatest_add x y z = omega (arith, ints, clamps)

least_nests : (x y z : ℤ) → int_min (int_min x y) z ≡ int_min x (int_min y z)
least_nests x y z = omega (arith, ints, clamps)

least_turns : (x y : ℤ) → int_min x y ≡ int_min y x
least_turns x y = omega (arith, ints, clamps)

greatest_nests : (x y z : ℤ) → int_max (int_max x y) z ≡ int_max x (int_max y z)
greatest_nests x y z = omega (arith, ints, clamps)

greatest_turns : (x y : ℤ) → int_max x y ≡ int_max y x
greatest_turns x y = omega (arith, ints, clamps)

module _ (m : ℤ → ℤ → ℤ) (nests : (x y z : ℤ) → m (m x y) z ≡ m x (m y z)) (turns : (x y : ℤ) → m x y ≡ m y x) where
  past : (x y z : ℤ) → m x (m y z) ≡ m y (m x z)
  past x y z = sym (nests x y z) ∙ ap (λ (k : ℤ). m k z) (turns x y) ∙ nests y x z

  -- both sides are p, q, u, r, s, v
  sorted_left : (p q r s u v : ℤ) → m (m p (m (m q r) s)) (m u v) ≡ m p (m q (m u (m r (m s v))))
  sorted_left p q r s u v =
      nests p (m (m q r) s) (m u v)
      ∙ ap (m p) (nests (m q r) s (m u v) ∙ nests q r (m s (m u v)) ∙ ap (m q) (ap (m r) (past s u v) ∙ past r u (m s v)))

  sorted_right : (p q r s u v : ℤ) → m (m (m (m p q) u) r) (m s v) ≡ m p (m q (m u (m r (m s v))))
  sorted_right p q r s u v = nests (m (m p q) u) r (m s v) ∙ nests (m p q) u (m r (m s v)) ∙ nests p q (m u (m r (m s v)))

  sorted : (p q r s u v : ℤ) → m (m p (m (m q r) s)) (m u v) ≡ m (m (m (m p q) u) r) (m s v)
  sorted p q r s u v = sorted_left p q r s u v ∙ sym (sorted_right p q r s u v)

-- aa, ba, ca: of consecutive items; bc, ac: of bounds; cb, bb: of beginnings; t: the middle total
nested_least : (aa ba ca bc cb ac bb t : ℤ) → int_min (int_min aa (int_min (int_min ba ca) (bc +ℤ cb))) (ac +ℤ int_min bb (cb +ℤ t)) ≡ int_min (int_min (int_min (int_min aa ba) (ac +ℤ bb)) ca) (int_min bc (ac +ℤ t) +ℤ cb)
nested_least aa ba ca bc cb ac bb t =
    let moved : ac +ℤ (cb +ℤ t) ≡ (ac +ℤ t) +ℤ cb = omega (arith, ints) in
    ap (int_min (int_min aa (int_min (int_min ba ca) (bc +ℤ cb)))) (add_least ac bb (cb +ℤ t) ∙ ap (int_min (ac +ℤ bb)) moved)
    ∙ sorted int_min least_nests least_turns aa ba ca (bc +ℤ cb) (ac +ℤ bb) ((ac +ℤ t) +ℤ cb)
    ∙ ap (int_min (int_min (int_min (int_min aa ba) (ac +ℤ bb)) ca)) (sym (least_add cb bc (ac +ℤ t)))

nested_greatest : (aa ba ca bc cb ac bb t : ℤ) → int_max (int_max aa (int_max (int_max ba ca) (bc +ℤ cb))) (ac +ℤ int_max bb (cb +ℤ t)) ≡ int_max (int_max (int_max (int_max aa ba) (ac +ℤ bb)) ca) (int_max bc (ac +ℤ t) +ℤ cb)
nested_greatest aa ba ca bc cb ac bb t =
    let moved : ac +ℤ (cb +ℤ t) ≡ (ac +ℤ t) +ℤ cb = omega (arith, ints) in
    ap (int_max (int_max aa (int_max (int_max ba ca) (bc +ℤ cb)))) (add_greatest ac bb (cb +ℤ t) ∙ ap (int_max (ac +ℤ bb)) moved)
    ∙ sorted int_max greatest_nests greatest_turns aa ba ca (bc +ℤ cb) (ac +ℤ bb) ((ac +ℤ t) +ℤ cb)
    ∙ ap (int_max (int_max (int_max (int_max aa ba) (ac +ℤ bb)) ca)) (sym (greatest_add cb bc (ac +ℤ t)))

-- joins nest as they like
pub nested_joins : (a b c : ConsecutiveSums) → sums_of_both a (sums_of_both b c) ≡ sums_of_both (sums_of_both a b) c
nested_joins a b c =
    let n : a.count + (b.count + c.count) ≡ (a.count + b.count) + c.count = omega arith in
    let t : a.total +ℤ (b.total +ℤ c.total) ≡ (a.total +ℤ b.total) +ℤ c.total = omega (arith, ints) in
    let l : ConsecutiveSums = sums_of_both a (sums_of_both b c) in
    let r : ConsecutiveSums = sums_of_both (sums_of_both a b) c in
    let bl : l.beginnings.least ≡ r.beginnings.least = omega (arith, ints, clamps) in
    let bh : l.beginnings.greatest ≡ r.beginnings.greatest = omega (arith, ints, clamps) in
    let cl : l.ends.least ≡ r.ends.least = omega (arith, ints, clamps) in
    let ch : l.ends.greatest ≡ r.ends.greatest = omega (arith, ints, clamps) in
    let al : l.all.least ≡ r.all.least = nested_least a.all.least b.all.least c.all.least b.ends.least c.beginnings.least a.ends.least b.beginnings.least b.total in
    let ah : l.all.greatest ≡ r.all.greatest = nested_greatest a.all.greatest b.all.greatest c.all.greatest b.ends.greatest c.beginnings.greatest a.ends.greatest b.beginnings.greatest b.total in
    ap (λ (k : ℕ). consecutive_sums k l.total l.beginnings l.ends l.all) n
    ∙ ap (λ (k : ℤ). consecutive_sums r.count k l.beginnings l.ends l.all) t
    ∙ ap (λ (k : Bounds). consecutive_sums r.count r.total k l.ends l.all) (same_bounds _ _ _ _ bl bh)
    ∙ ap (λ (k : Bounds). consecutive_sums r.count r.total r.beginnings k l.all) (same_bounds _ _ _ _ cl ch)
    ∙ ap (λ (k : Bounds). consecutive_sums r.count r.total r.beginnings r.ends k) (same_bounds _ _ _ _ al ah)

join_of : (x : ℤ) (xs : List ℤ) (y : ℤ) (ys : List ℤ) → sums_of_both (sums_of x xs) (sums_of y ys) ≡ sums_of x (xs ++ y ∷ ys)
join_of x [] y ys = refl
join_of x (z ∷ zs) y ys = sym (nested_joins (sums_of_one x) (sums_of z zs) (sums_of y ys)) ∙ ap (sums_of_both (sums_of_one x)) (join_of z zs y ys)

pub joined_of : (a b : ConsecutiveSums) (xs ys : List ℤ) → AreSumsOf a xs → AreSumsOf b ys → AreSumsOf (sums_of_both a b) (xs ++ ys)
joined_of a b [] ys p q = absurd p
joined_of a b (x ∷ xs) [] p q = absurd q
joined_of a b (x ∷ xs) (y ∷ ys) p q = ap (λ (s : ConsecutiveSums). sums_of_both s b) p ∙ ap (sums_of_both (sums_of x xs)) q ∙ join_of x xs y ys

pub items_of : (s : ConsecutiveSums) (xs : List ℤ) → AreSumsOf s xs → s.count ≡ length xs
items_of s [] p = absurd p
items_of s (x ∷ xs) p = ap (λ (t : ConsecutiveSums). t.count) p ∙ counted x xs where
  counted : (x : ℤ) (xs : List ℤ) → (sums_of x xs).count ≡ length (x ∷ xs)
  counted x [] = refl
  counted x (y ∷ ys) = let h = counted y ys in omega (arith, h)

-- the bounds of the beginnings bound each beginning, and no bound of all beginnings is nearer
beginnings_bound : (x : ℤ) (xs : List ℤ) (n : ℕ) → ((sums_of x xs).beginnings.least ≤ℤ total (take (suc n) (x ∷ xs))) × (total (take (suc n) (x ∷ xs)) ≤ℤ (sums_of x xs).beginnings.greatest)
beginnings_bound x [] zero = (omega (arith, ints), omega (arith, ints))
beginnings_bound x [] (suc n) = (omega (arith, ints), omega (arith, ints))
beginnings_bound x (y ∷ ys) zero = (omega (arith, ints, clamps), omega (arith, ints, clamps))
beginnings_bound x (y ∷ ys) (suc n) = let h = beginnings_bound y ys n in (omega (arith, ints, clamps, h.0), omega (arith, ints, clamps, h.1))

beginnings_least : (x : ℤ) (xs : List ℤ) (l : ℤ) → ((n : ℕ) → l ≤ℤ total (take (suc n) (x ∷ xs))) → l ≤ℤ (sums_of x xs).beginnings.least
beginnings_least x [] l f = let h = f 0 in omega (arith, ints, h)
beginnings_least x (y ∷ ys) l f =
    let h = f 0 in
    let rest : (l -ℤ x) ≤ℤ (sums_of y ys).beginnings.least = beginnings_least y ys (l -ℤ x) (λ n. let k = f (suc n) in omega (arith, ints, k)) in
    omega (arith, ints, clamps, h, rest)

beginnings_greatest : (x : ℤ) (xs : List ℤ) (l : ℤ) → ((n : ℕ) → total (take (suc n) (x ∷ xs)) ≤ℤ l) → (sums_of x xs).beginnings.greatest ≤ℤ l
beginnings_greatest x [] l f = let h = f 0 in omega (arith, ints, h)
beginnings_greatest x (y ∷ ys) l f =
    let h = f 0 in
    let rest : (sums_of y ys).beginnings.greatest ≤ℤ (l -ℤ x) = beginnings_greatest y ys (l -ℤ x) (λ n. let k = f (suc n) in omega (arith, ints, k)) in
    omega (arith, ints, clamps, h, rest)

abbrev AreInside : Bounds → Type 0
AreInside e = (negsuc 9223372036854775807 ≤ℤ e.least) × (e.greatest ≤ℤ pos 9223372036854775807)

beginnings_inside : (x : ℤ) (xs : List ℤ) → ((sums_of x xs).all.least ≤ℤ (sums_of x xs).beginnings.least) × ((sums_of x xs).beginnings.greatest ≤ℤ (sums_of x xs).all.greatest)
beginnings_inside x [] = (omega (arith, ints), omega (arith, ints))
beginnings_inside x (y ∷ ys) = (omega (arith, ints, clamps), omega (arith, ints, clamps))

nothing : IsI64 (pos 0)
nothing = (omega (arith, ints), omega (arith, ints))

drop_none : (i : ℕ) → drop {A = ℤ} i [] ≡ []
drop_none zero = refl
drop_none (suc i) = refl

none_in : (n : ℕ) → IsI64 (total (take n []))
none_in zero = nothing
none_in (suc n) = nothing

lawful_if : (x : ℤ) (xs : List ℤ) → AreInside (sums_of x xs).all → IsLawful (x ∷ xs)
lawful_if x xs h zero zero = nothing
lawful_if x xs h zero (suc n) = let b = beginnings_bound x xs n in let i = beginnings_inside x xs in (omega (arith, ints, h.0, b.0, i.0), omega (arith, ints, h.1, b.1, i.1))
lawful_if x [] h (suc i) n = subst (λ (l : List ℤ). IsI64 (total (take n l))) (sym (drop_none i)) (none_in n)
lawful_if x (y ∷ ys) h (suc i) n = lawful_if y ys (omega (arith, ints, clamps, h.0), omega (arith, ints, clamps, h.1)) i n

if_lawful : (x : ℤ) (xs : List ℤ) → IsLawful (x ∷ xs) → AreInside (sums_of x xs).all
if_lawful x [] f = let h = f 0 1 in (omega (arith, ints, h.0), omega (arith, ints, h.1))
if_lawful x (y ∷ ys) f =
    let here = f 0 1 in
    let rest = if_lawful y ys (λ i n. f (suc i) n) in
    let least = beginnings_least x (y ∷ ys) (negsuc 9223372036854775807) (λ n. (f 0 (suc n)).0) in
    let greatest = beginnings_greatest x (y ∷ ys) (pos 9223372036854775807) (λ n. (f 0 (suc n)).1) in
    (omega (arith, ints, clamps, here.0, rest.0, least), omega (arith, ints, clamps, here.1, rest.1, greatest))

inside_is : (e : Bounds) → are_in_range e ≡ true → AreInside e
inside_is e h = let p = and_true _ _ h in (le_true _ _ p.0, le_true _ _ p.1)

is_inside : (e : Bounds) → AreInside e → are_in_range e ≡ true
is_inside e h = true_and _ _ (true_le _ _ h.0) (true_le _ _ h.1)

pub lawful_then : (s : ConsecutiveSums) (xs : List ℤ) → AreSumsOf s xs → are_in_range s.all ≡ true → IsLawful xs
lawful_then s [] p e = absurd p
lawful_then s (x ∷ xs) p e = lawful_if x xs (inside_is _ (subst (λ (t : ConsecutiveSums). are_in_range t.all ≡ true) p e))

pub then_lawful : (s : ConsecutiveSums) (xs : List ℤ) → AreSumsOf s xs → IsLawful xs → are_in_range s.all ≡ true
then_lawful s [] p f = absurd p
then_lawful s (x ∷ xs) p f = subst (λ (t : ConsecutiveSums). are_in_range t.all ≡ true) (sym p) (is_inside _ (if_lawful x xs f))

within_small : (n : ℕ) (x : ℤ) → n ≤ 1073741824 → IsSumOf n x → IsWithin94Bits x
within_small n x h w = (omega (arith, ints, w.0), omega (arith, ints, w.1))

bounds_small : (n : ℕ) (e : Bounds) → n ≤ 1073741824 → AreBoundsOfSums n e → AreBoundsWithin94Bits e
bounds_small n e h w = (within_small n e.least h w.0, within_small n e.greatest h w.1)

pub small_sums : (s : ConsecutiveSums) → AreConsecutiveSums s → AreSumsWithin94Bits s
small_sums s g = (within_small s.count s.total g.most_items g.total_within, bounds_small s.count s.beginnings g.most_items g.beginnings_within, bounds_small s.count s.ends g.most_items g.ends_within, bounds_small s.count s.all g.most_items g.all_within)

pub one_are : (x : ℤ) → IsI64 x → AreConsecutiveSums (sums_of_one x)
one_are x h = let w : IsSumOf 1 x = (omega (arith, ints, h.0), omega (arith, ints, h.1)) in record {
  some_items = omega arith;
  most_items = omega arith;
  total_within = w;
  beginnings_within = (w, w);
  ends_within = (w, w);
  all_within = (w, w);
}

sum_within : (n m : ℕ) (x y : ℤ) → IsSumOf n x → IsSumOf m y → IsSumOf (n + m) (x +ℤ y)
sum_within n m x y a b = (omega (arith, ints, a.0, b.0), omega (arith, ints, a.1, b.1))

more_right : (n m : ℕ) (x : ℤ) → IsSumOf n x → IsSumOf (n + m) x
more_right n m x a = (omega (arith, ints, a.0), omega (arith, ints, a.1))

more_left : (n m : ℕ) (x : ℤ) → IsSumOf m x → IsSumOf (n + m) x
more_left n m x a = (omega (arith, ints, a.0), omega (arith, ints, a.1))

bounds_within : (n : ℕ) (a b : Bounds) → AreBoundsOfSums n a → AreBoundsOfSums n b → AreBoundsOfSums n (of_both a b)
bounds_within n a b p q = (least_within n a.least b.least p.0 q.0, greatest_within n a.greatest b.greatest p.1 q.1) where
  least_within : (n : ℕ) (x y : ℤ) → IsSumOf n x → IsSumOf n y → IsSumOf n (int_min x y)
  least_within n x y a b = (omega (arith, ints, clamps, a.0, b.0), omega (arith, ints, clamps, a.1, b.1))

  greatest_within : (n : ℕ) (x y : ℤ) → IsSumOf n x → IsSumOf n y → IsSumOf n (int_max x y)
  greatest_within n x y a b = (omega (arith, ints, clamps, a.0, b.0), omega (arith, ints, clamps, a.1, b.1))

swap_within : (n m : ℕ) (x y : ℤ) → IsSumOf n x → IsSumOf m y → IsSumOf (n + m) (y +ℤ x)
swap_within n m x y a b = (omega (arith, ints, a.0, b.0), omega (arith, ints, a.1, b.1))

pub joined_are : (a b : ConsecutiveSums) → AreConsecutiveSums a → AreConsecutiveSums b → a.count + b.count ≤ 1073741824 → AreConsecutiveSums (sums_of_both a b)
joined_are a b g h few =
    let n : ℕ = a.count in let m : ℕ = b.count in
    let ab = g.beginnings_within in let bb = h.beginnings_within in
    let ac = g.ends_within in let bc = h.ends_within in
    let aa = g.all_within in let ba = h.all_within in
    record {
      some_items = omega (arith, g.some_items);
      most_items = few;
      total_within = sum_within n m a.total b.total g.total_within h.total_within;
      beginnings_within = bounds_within (n + m) a.beginnings (raised b.beginnings a.total) (more_right n m _ ab.0, more_right n m _ ab.1) (swap_within n m _ _ g.total_within bb.0, swap_within n m _ _ g.total_within bb.1);
      ends_within = bounds_within (n + m) b.ends (raised a.ends b.total) (more_left n m _ bc.0, more_left n m _ bc.1) (sum_within n m _ _ ac.0 h.total_within, sum_within n m _ _ ac.1 h.total_within);
      all_within = bounds_within (n + m) (of_both a.all b.all) _ (bounds_within (n + m) a.all b.all (more_right n m _ aa.0, more_right n m _ aa.1) (more_left n m _ ba.0, more_left n m _ ba.1)) (sum_within n m _ _ ac.0 bb.0, sum_within n m _ _ ac.1 bb.1);
    }
