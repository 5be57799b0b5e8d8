-- Sums and differences: what the constants of one item do, and what those of both do.
use Rattle.std.proofs.Common.{◌≡◌, ℕ, ◌+◌, ◌≤◌, Bool, true, false, true≢false, cond, not, ◌&&◌, ℤ, pos, negsuc, ◌+ℤ◌, ◌-ℤ◌, ◌≤ℤ◌, int_le, Result, Ok, Err, refl, sym, ap, ◌∙◌, subst, arith}
use Rattle.std.proofs.lemmas.Int.{ints, clamps}
use Rattle.std.specs.Int.{int_min, int_max}
use Rattle.apl_array.specs.Range.{in_range}
use Rattle.apl_pool.specs.declared.kernel.Fault.{Fault}
use Rattle.apl_pool.specs.declared.kernel.Fault.TheVariants.{Limit}
use Rattle.apl_pool.specs.Summaries.{IsI64, and_then}
use Rattle.apl_scalar.specs.Scalar.{exact, dyadic_numbers}
use Rattle.apl_summary.specs.declared.constants.Bounds.{Bounds}
use Rattle.apl_summary.specs.declared.constants.Constants.{Constants}
use Rattle.apl_summary.specs.Constants.{bounds, constants, constants_of_one, constants_of_both, keeps_range, signed_outcome, signed_function, AreConstants, IsWithin94Bits, AreWithin94Bits, IsSumOf, of_both, raised, lowered}

-- what one item does
abbrev signed_step : Bool → ℤ → ℤ → Result ℤ Fault
signed_step is_plus x r = exact (cond is_plus (x +ℤ r) (x -ℤ r))

step_is : (is_plus : Bool) (x r : ℤ) → signed_step is_plus x r ≡ dyadic_numbers (signed_function is_plus) x r
step_is true x r = refl
step_is false x r = refl

pub le_true : (a b : ℤ) → int_le a b ≡ true → a ≤ℤ b
le_true a b e = grind (arith, ints)

pub true_le : (a b : ℤ) → a ≤ℤ b → int_le a b ≡ true
true_le a b h = grind (arith, ints)

pub by_test : (b : Bool) (P : Type 0) → (b ≡ true → P) → (b ≡ false → P) → P
by_test true P f g = f refl
by_test false P f g = g refl

-- what passes the test of a `cond` to `Ok`
cond_ok : (b : Bool) (x v : ℤ) (e : Fault) → cond b (Ok x) (Err e) ≡ Ok v → (b ≡ true) × (x ≡ v)
cond_ok true x v e h = (refl, cc)
cond_ok false x v e h = absurd (cc)

pub and_true : (a b : Bool) → a && b ≡ true → (a ≡ true) × (b ≡ true)
and_true true b e = (refl, e)
and_true false b e = absurd (cc)

pub true_and : (a b : Bool) → a ≡ true → b ≡ true → a && b ≡ true
true_and true b p q = q
true_and false b p q = absurd (cc)

-- the four tests
pub record Passes (p : Constants) (r : ℤ) : Type 0 where
  pub least : negsuc 9223372036854775807 ≤ℤ (p.plus.least +ℤ r)
  pub greatest : (p.plus.greatest +ℤ r) ≤ℤ pos 9223372036854775807
  pub minus_least : negsuc 9223372036854775807 ≤ℤ (p.minus.least -ℤ r)
  pub minus_greatest : (p.minus.greatest -ℤ r) ≤ℤ pos 9223372036854775807

pub passes : (p : Constants) (r : ℤ) → keeps_range p r ≡ true → Passes p r
passes p r e =
    let a = and_true _ _ e in let b = and_true _ _ a.0 in let c = and_true _ _ a.1 in
    record { least = le_true _ _ b.0; greatest = le_true _ _ b.1; minus_least = le_true _ _ c.0; minus_greatest = le_true _ _ c.1 }

pub fits_from : (p : Constants) (r : ℤ) → Passes p r → keeps_range p r ≡ true
fits_from p r q = true_and _ _ (true_and _ _ (true_le _ _ q.least) (true_le _ _ q.greatest)) (true_and _ _ (true_le _ _ q.minus_least) (true_le _ _ q.minus_greatest))

abbrev pub out_of : Constants → ℤ → ℤ
out_of p r = cond p.is_negated (p.total -ℤ r) (p.total +ℤ r)

out_in : (turned : Bool) (is_plus : Bool) (n : ℕ) (total : ℤ) (plus minus : Bounds) (r : ℤ) → AreConstants is_plus (constants n turned total plus minus) → Passes (constants n turned total plus minus) r → IsI64 (out_of (constants n turned total plus minus) r)
out_in true is_plus n total plus minus r b p = let q = b.total_with_minus refl in (omega (arith, ints, p.minus_least, q.0), omega (arith, ints, p.minus_greatest, q.1))
out_in false is_plus n total plus minus r b p = let q = b.total_with_plus refl in (omega (arith, ints, p.least, q.0), omega (arith, ints, p.greatest, q.1))

pub stays_in : (is_plus : Bool) (p : Constants) (r : ℤ) → AreConstants is_plus p → Passes p r → IsI64 (out_of p r)
stays_in is_plus p r b q = out_in p.is_negated is_plus p.count p.total p.plus p.minus r b q

pub signed_in_range : (is_plus : Bool) (p : Constants) (r v : ℤ) → AreConstants is_plus p → IsI64 r → signed_outcome p r ≡ Ok v → IsI64 v
signed_in_range is_plus p r v b h e = let q = cond_ok (keeps_range p r) (out_of p r) v Limit e in subst IsI64 q.1 (stays_in is_plus p r b (passes p r q.0))

within_small : (n : ℕ) (x : ℤ) → n ≤ 1073741824 → IsSumOf n x → IsWithin94Bits x
within_small n x h w = (omega (arith, ints, w.0), omega (arith, ints, w.1))

pub are_within_94_bits : (is_plus : Bool) (p : Constants) → AreConstants is_plus p → AreWithin94Bits p
are_within_94_bits is_plus p g = (within_small p.count p.total g.most_items g.total_within, within_small p.count p.plus.least g.most_items g.plus_within.0, within_small p.count p.plus.greatest g.most_items g.plus_within.1, within_small p.count p.minus.least g.most_items g.minus_within.0, within_small p.count p.minus.greatest g.most_items g.minus_within.1)

-- where what the right chunk gives comes in to the left one, both pass exactly where the constants_of_both one does
right_passes : (is_plus ta tb : Bool) (na nb : ℕ) (xa xb : ℤ) (pa pb ma mb : Bounds) (r : ℤ) → Passes (constants_of_both is_plus (constants na ta xa pa ma) (constants nb tb xb pb mb)) r → Passes (constants nb tb xb pb mb) r
right_passes true ta tb na nb xa xb pa pb ma mb r p = record { least = omega (arith, ints, clamps, p.least); greatest = omega (arith, ints, clamps, p.greatest); minus_least = p.minus_least; minus_greatest = p.minus_greatest }
right_passes false ta tb na nb xa xb pa pb ma mb r p = record { least = omega (arith, ints, clamps, p.least); greatest = omega (arith, ints, clamps, p.greatest); minus_least = omega (arith, ints, clamps, p.minus_least); minus_greatest = omega (arith, ints, clamps, p.minus_greatest) }

left_passes : (is_plus ta tb : Bool) (na nb : ℕ) (xa xb : ℤ) (pa pb ma mb : Bounds) (r : ℤ) → AreConstants is_plus (constants na ta xa pa ma) → AreConstants is_plus (constants nb tb xb pb mb) → Passes (constants nb tb xb pb mb) r → Passes (constants_of_both is_plus (constants na ta xa pa ma) (constants nb tb xb pb mb)) r
    → Passes (constants na ta xa pa ma) (out_of (constants nb tb xb pb mb) r)
left_passes true ta true na nb xa xb pa pb ma mb r g h q p = absurd (true≢false (h.only_plus refl).0)
left_passes true ta false na nb xa xb pa pb ma mb r g h q p =
    let inside = out_in false true nb xb pb mb r h q in
    let least : ma.least ≡ negsuc 0 = ap (λ (e : Bounds). e.least) (g.only_plus refl).1 in
    let greatest : ma.greatest ≡ negsuc 0 = ap (λ (e : Bounds). e.greatest) (g.only_plus refl).1 in
    record { least = omega (arith, ints, clamps, p.least); greatest = omega (arith, ints, clamps, p.greatest); minus_least = omega (arith, ints, least, inside.1); minus_greatest = omega (arith, ints, greatest, inside.0) }
left_passes false ta true na nb xa xb pa pb ma mb r g h q p = record { least = omega (arith, ints, clamps, p.minus_least); greatest = omega (arith, ints, clamps, p.minus_greatest); minus_least = omega (arith, ints, clamps, p.least); minus_greatest = omega (arith, ints, clamps, p.greatest) }
left_passes false ta false na nb xa xb pa pb ma mb r g h q p = record { least = omega (arith, ints, clamps, p.least); greatest = omega (arith, ints, clamps, p.greatest); minus_least = omega (arith, ints, clamps, p.minus_least); minus_greatest = omega (arith, ints, clamps, p.minus_greatest) }

both_pass : (is_plus ta tb : Bool) (na nb : ℕ) (xa xb : ℤ) (pa pb ma mb : Bounds) (r : ℤ) → AreConstants is_plus (constants na ta xa pa ma) → AreConstants is_plus (constants nb tb xb pb mb) → Passes (constants nb tb xb pb mb) r → Passes (constants na ta xa pa ma) (out_of (constants nb tb xb pb mb) r)
    → Passes (constants_of_both is_plus (constants na ta xa pa ma) (constants nb tb xb pb mb)) r
both_pass true ta true na nb xa xb pa pb ma mb r g h q p = absurd (true≢false (h.only_plus refl).0)
both_pass true ta false na nb xa xb pa pb ma mb r g h q p = record { least = omega (arith, ints, clamps, p.least, q.least); greatest = omega (arith, ints, clamps, p.greatest, q.greatest); minus_least = q.minus_least; minus_greatest = q.minus_greatest }
both_pass false ta true na nb xa xb pa pb ma mb r g h q p = record { least = omega (arith, ints, clamps, p.minus_least, q.least); greatest = omega (arith, ints, clamps, p.minus_greatest, q.greatest); minus_least = omega (arith, ints, clamps, p.least, q.minus_least); minus_greatest = omega (arith, ints, clamps, p.greatest, q.minus_greatest) }
both_pass false ta false na nb xa xb pa pb ma mb r g h q p = record { least = omega (arith, ints, clamps, p.least, q.least); greatest = omega (arith, ints, clamps, p.greatest, q.greatest); minus_least = omega (arith, ints, clamps, p.minus_least, q.minus_least); minus_greatest = omega (arith, ints, clamps, p.minus_greatest, q.minus_greatest) }

join_total : (is_plus ta tb : Bool) (na nb : ℕ) (xa xb : ℤ) (pa pb ma mb : Bounds) (r : ℤ) → out_of (constants_of_both is_plus (constants na ta xa pa ma) (constants nb tb xb pb mb)) r ≡ out_of (constants na ta xa pa ma) (out_of (constants nb tb xb pb mb) r)
join_total is_plus true true na nb xa xb pa pb ma mb r = omega (arith, ints)
join_total is_plus true false na nb xa xb pa pb ma mb r = omega (arith, ints)
join_total is_plus false true na nb xa xb pa pb ma mb r = omega (arith, ints)
join_total is_plus false false na nb xa xb pa pb ma mb r = omega (arith, ints)

pub outcome_ok : (p : Constants) (r : ℤ) → Passes p r → signed_outcome p r ≡ Ok (out_of p r)
outcome_ok p r q = ap (λ (b : Bool). cond b (Ok (out_of p r)) (Err Limit)) (fits_from p r q)

pub outcome_err : (p : Constants) (r : ℤ) → (Passes p r → ⊥) → signed_outcome p r ≡ Err Limit
outcome_err p r n = by_test (keeps_range p r) (signed_outcome p r ≡ Err Limit) (λ e. absurd (n (passes p r e))) (λ e. ap (λ (b : Bool). cond b (Ok (out_of p r)) (Err Limit)) e)

pub joined_outcome : (is_plus : Bool) (a b : Constants) → AreConstants is_plus a → AreConstants is_plus b → (r : ℤ) → IsI64 r → signed_outcome (constants_of_both is_plus a b) r ≡ and_then (signed_outcome b r) (signed_outcome a)
joined_outcome is_plus a b g h r inside =
    let j : Constants = constants_of_both is_plus a b in
    let v : ℤ = out_of b r in
    by_test (keeps_range b r) (signed_outcome j r ≡ and_then (signed_outcome b r) (signed_outcome a))
    (λ e. let q = passes b r e in
    let rest : and_then (signed_outcome b r) (signed_outcome a) ≡ signed_outcome a v = ap (λ (o : Result ℤ Fault). and_then o (signed_outcome a)) (outcome_ok b r q) in
    by_test (keeps_range a v) (signed_outcome j r ≡ and_then (signed_outcome b r) (signed_outcome a))
    (λ f. let p = passes a v f in
    outcome_ok j r (both_pass is_plus a.is_negated b.is_negated a.count b.count a.total b.total a.plus b.plus a.minus b.minus r g h q p)
    ∙ ap (λ (x : ℤ). Ok x) (join_total is_plus a.is_negated b.is_negated a.count b.count a.total b.total a.plus b.plus a.minus b.minus r)
    ∙ sym (outcome_ok a v p) ∙ sym rest)
    (λ f. outcome_err j r (λ p. true≢false (sym (fits_from a v (left_passes is_plus a.is_negated b.is_negated a.count b.count a.total b.total a.plus b.plus a.minus b.minus r g h q p)) ∙ f))
    ∙ sym (ap (λ (t : Bool). cond t (Ok (out_of a v)) (Err Limit)) f) ∙ sym rest))
    (λ e. outcome_err j r (λ p. true≢false (sym (fits_from b r (right_passes is_plus a.is_negated b.is_negated a.count b.count a.total b.total a.plus b.plus a.minus b.minus r p)) ∙ e))
    ∙ sym (ap (λ (o : Result ℤ Fault). and_then o (signed_outcome a)) (ap (λ (t : Bool). cond t (Ok (out_of b r)) (Err Limit)) e)))

pub in_range_true : (v : ℤ) → IsI64 v → in_range v ≡ true
in_range_true v h = true_and _ _ (true_le _ _ h.0) (true_le _ _ h.1)

pub in_range_is : (v : ℤ) → in_range v ≡ true → IsI64 v
in_range_is v e = let p = and_true _ _ e in (le_true _ _ p.0, le_true _ _ p.1)

single_in : (is_plus : Bool) (x r : ℤ) → IsI64 r → IsI64 (cond is_plus (x +ℤ r) (x -ℤ r)) → Passes (constants_of_one is_plus x) r
single_in true x r h v = record { least = omega (arith, ints, clamps, v.0, h.0); greatest = omega (arith, ints, clamps, v.1, h.1); minus_least = omega (arith, ints, h.1); minus_greatest = omega (arith, ints, h.0) }
single_in false x r h v = record { least = omega (arith, ints, h.0); greatest = omega (arith, ints, h.1); minus_least = v.0; minus_greatest = v.1 }

in_single : (is_plus : Bool) (x r : ℤ) → Passes (constants_of_one is_plus x) r → IsI64 (cond is_plus (x +ℤ r) (x -ℤ r))
in_single true x r p = (omega (arith, ints, clamps, p.least), omega (arith, ints, clamps, p.greatest))
in_single false x r p = (p.minus_least, p.minus_greatest)

single_out : (is_plus : Bool) (x r : ℤ) → out_of (constants_of_one is_plus x) r ≡ cond is_plus (x +ℤ r) (x -ℤ r)
single_out true x r = refl
single_out false x r = refl

pub single_outcome : (is_plus : Bool) (x : ℤ) (r : ℤ) → IsI64 r → signed_outcome (constants_of_one is_plus x) r ≡ signed_step is_plus x r
single_outcome is_plus x r h =
    let v : ℤ = cond is_plus (x +ℤ r) (x -ℤ r) in
    by_test (in_range v) (signed_outcome (constants_of_one is_plus x) r ≡ signed_step is_plus x r)
    (λ e. outcome_ok (constants_of_one is_plus x) r (single_in is_plus x r h (in_range_is v e)) ∙ ap (λ (y : ℤ). Ok y) (single_out is_plus x r) ∙ sym (ap (λ (t : Bool). cond t (Ok v) (Err Limit)) e))
    (λ e. outcome_err (constants_of_one is_plus x) r (λ p. true≢false (sym (in_range_true v (in_single is_plus x r p)) ∙ e)) ∙ sym (ap (λ (t : Bool). cond t (Ok v) (Err Limit)) e))

within_add : (n m : ℕ) (x y : ℤ) → IsSumOf n x → IsSumOf m y → IsSumOf (n + m) (x +ℤ y)
within_add n m x y a b = (omega (arith, ints, a.0, b.0), omega (arith, ints, a.1, b.1))

within_sub : (n m : ℕ) (x y : ℤ) → IsSumOf n x → IsSumOf m y → IsSumOf (n + m) (x -ℤ y)
within_sub n m x y a b = (omega (arith, ints, a.0, b.1), omega (arith, ints, a.1, b.0))

within_more : (n m : ℕ) (x : ℤ) → IsSumOf m x → IsSumOf (n + m) x
within_more n m x a = (omega (arith, ints, a.0), omega (arith, ints, a.1))

within_min : (n : ℕ) (x y : ℤ) → IsSumOf n x → IsSumOf n y → IsSumOf n (int_min x y)
within_min n x y a b = (omega (arith, ints, clamps, a.0, b.0), omega (arith, ints, clamps, a.1, b.1))

within_max : (n : ℕ) (x y : ℤ) → IsSumOf n x → IsSumOf n y → IsSumOf n (int_max x y)
within_max n x y a b = (omega (arith, ints, clamps, a.0, b.0), omega (arith, ints, clamps, a.1, b.1))

abbrev AreSumsOf : ℕ → Bounds → Type 0
AreSumsOf n e = IsSumOf n e.least × IsSumOf n e.greatest

hull_within : (n m : ℕ) (b e : Bounds) → AreSumsOf m b → AreSumsOf (n + m) e → AreSumsOf (n + m) (of_both b e)
hull_within n m b e p q = (within_min (n + m) b.least e.least (within_more n m b.least p.0) q.0, within_max (n + m) b.greatest e.greatest (within_more n m b.greatest p.1) q.1)

plus_within : (n m : ℕ) (e : Bounds) (y : ℤ) → AreSumsOf n e → IsSumOf m y → AreSumsOf (n + m) (raised e y)
plus_within n m e y p q = (within_add n m e.least y p.0 q, within_add n m e.greatest y p.1 q)

minus_within : (n m : ℕ) (e : Bounds) (y : ℤ) → AreSumsOf n e → IsSumOf m y → AreSumsOf (n + m) (lowered e y)
minus_within n m e y p q = (within_sub n m e.least y p.0 q, within_sub n m e.greatest y p.1 q)

ends_within : (n : ℕ) (t : Bool) (e f : Bounds) → AreSumsOf n e → AreSumsOf n f → AreSumsOf n (cond t e f)
ends_within n true e f p q = p
ends_within n false e f p q = q

total_within : (n m : ℕ) (t : Bool) (x y : ℤ) → IsSumOf n x → IsSumOf m y → IsSumOf (n + m) (cond t (x -ℤ y) (x +ℤ y))
total_within n m true x y p q = within_sub n m x y p q
total_within n m false x y p q = within_add n m x y p q

joined_even : (is_plus ta tb : Bool) (na nb : ℕ) (xa xb : ℤ) (pa pb ma mb : Bounds) → AreConstants is_plus (constants na ta xa pa ma) → AreConstants is_plus (constants nb tb xb pb mb)
    → let j : Constants = constants_of_both is_plus (constants na ta xa pa ma) (constants nb tb xb pb mb) in (j.is_negated ≡ false → (j.plus.least ≤ℤ j.total) × (j.total ≤ℤ j.plus.greatest)) × (j.is_negated ≡ true → (j.minus.least ≤ℤ j.total) × (j.total ≤ℤ j.minus.greatest))
joined_even true true tb na nb xa xb pa pb ma mb g h = absurd (true≢false (g.only_plus refl).0)
joined_even true false true na nb xa xb pa pb ma mb g h = absurd (true≢false (h.only_plus refl).0)
joined_even true false false na nb xa xb pa pb ma mb g h = let e = g.total_with_plus refl in ((λ _. (omega (arith, ints, clamps, e.0), omega (arith, ints, clamps, e.1))), λ f. absurd (true≢false (sym f)))
joined_even false true true na nb xa xb pa pb ma mb g h = let e = g.total_with_minus refl in ((λ _. (omega (arith, ints, clamps, e.0), omega (arith, ints, clamps, e.1))), λ f. absurd (true≢false (sym f)))
joined_even false true false na nb xa xb pa pb ma mb g h = let e = g.total_with_minus refl in ((λ f. absurd (true≢false f)), λ _. (omega (arith, ints, clamps, e.0), omega (arith, ints, clamps, e.1)))
joined_even false false true na nb xa xb pa pb ma mb g h = let e = g.total_with_plus refl in ((λ f. absurd (true≢false f)), λ _. (omega (arith, ints, clamps, e.0), omega (arith, ints, clamps, e.1)))
joined_even false false false na nb xa xb pa pb ma mb g h = let e = g.total_with_plus refl in ((λ _. (omega (arith, ints, clamps, e.0), omega (arith, ints, clamps, e.1))), λ f. absurd (true≢false (sym f)))

joined_minus_within : (is_plus : Bool) (n m : ℕ) (b e : Bounds) → AreSumsOf m b → AreSumsOf (n + m) e → AreSumsOf (n + m) (cond is_plus b (of_both b e))
joined_minus_within true n m b e p q = (within_more n m b.least p.0, within_more n m b.greatest p.1)
joined_minus_within false n m b e p q = hull_within n m b e p q

joined_unturned : (is_plus : Bool) (a b : Constants) → AreConstants is_plus a → AreConstants is_plus b → is_plus ≡ true → ((constants_of_both is_plus a b).is_negated ≡ false) × ((constants_of_both is_plus a b).minus ≡ bounds (negsuc 0) (negsuc 0))
joined_unturned is_plus a b g h e = let x = g.only_plus e in let y = h.only_plus e in
    (ap (λ (t : Bool). cond t (not b.is_negated) b.is_negated) x.0 ∙ y.0, ap (λ (t : Bool). cond t b.minus (of_both b.minus (cond b.is_negated (raised a.plus b.total) (lowered a.minus b.total)))) e ∙ y.1)

pub joined_are : (is_plus : Bool) (a b : Constants) → AreConstants is_plus a → AreConstants is_plus b → a.count + b.count ≤ 1073741824 → AreConstants is_plus (constants_of_both is_plus a b)
joined_are is_plus a b g h few =
    let n : ℕ = a.count in let m : ℕ = b.count in
    let signs = joined_even is_plus a.is_negated b.is_negated a.count b.count a.total b.total a.plus b.plus a.minus b.minus g h in
    record {
      some_items = omega (arith, g.some_items);
      most_items = few;
      total_within = total_within n m a.is_negated a.total b.total g.total_within h.total_within;
      plus_within = hull_within n m b.plus _ h.plus_within (ends_within (n + m) b.is_negated (lowered a.minus b.total) (raised a.plus b.total) (minus_within n m a.minus b.total g.minus_within h.total_within) (plus_within n m a.plus b.total g.plus_within h.total_within));
      minus_within = joined_minus_within is_plus n m b.minus _ h.minus_within (ends_within (n + m) b.is_negated (raised a.plus b.total) (lowered a.minus b.total) (plus_within n m a.plus b.total g.plus_within h.total_within) (minus_within n m a.minus b.total g.minus_within h.total_within));
      only_plus = joined_unturned is_plus a b g h;
      total_with_plus = signs.0;
      total_with_minus = signs.1;
    }

pub untested : (p : Constants) (r : ℤ) → keeps_range p r ≡ false → signed_outcome p r ≡ Err Limit
untested p r e = ap (λ (b : Bool). cond b (Ok (out_of p r)) (Err Limit)) e

pub tested : (p : Constants) (r v : ℤ) → keeps_range p r ≡ true → v ≡ out_of p r → Ok v ≡ signed_outcome p r
tested p r v e o = ap (λ (x : ℤ). Ok x) o ∙ sym (ap (λ (b : Bool). cond b (Ok (out_of p r)) (Err Limit)) e)

pub one_is : (is_plus : Bool) (x r : ℤ) → IsI64 r → signed_outcome (constants_of_one is_plus x) r ≡ dyadic_numbers (signed_function is_plus) x r
one_is is_plus x r h = single_outcome is_plus x r h ∙ step_is is_plus x r

pub one_are : (is_plus : Bool) (x : ℤ) → IsI64 x → AreConstants is_plus (constants_of_one is_plus x)
one_are true x h = record {
  some_items = omega arith;
  most_items = omega arith;
  total_within = (omega (arith, ints, h.0), omega (arith, ints, h.1));
  plus_within = ((omega (arith, ints, clamps, h.0, h.1), omega (arith, ints, clamps, h.0, h.1)), (omega (arith, ints, clamps, h.0, h.1), omega (arith, ints, clamps, h.0, h.1)));
  minus_within = ((omega (arith, ints), omega (arith, ints)), (omega (arith, ints), omega (arith, ints)));
  only_plus = λ _. (refl, refl);
  total_with_plus = λ _. (omega (arith, ints, clamps), omega (arith, ints, clamps));
  total_with_minus = λ e. absurd (true≢false (sym e));
}
one_are false x h = record {
  some_items = omega arith;
  most_items = omega arith;
  total_within = (omega (arith, ints, h.0), omega (arith, ints, h.1));
  plus_within = ((omega (arith, ints), omega (arith, ints)), (omega (arith, ints), omega (arith, ints)));
  minus_within = ((omega (arith, ints, h.0), omega (arith, ints, h.1)), (omega (arith, ints, h.0), omega (arith, ints, h.1)));
  only_plus = λ e. absurd (true≢false (sym e));
  total_with_plus = λ e. absurd (true≢false e);
  total_with_minus = λ _. (omega (arith, ints), omega (arith, ints));
}
