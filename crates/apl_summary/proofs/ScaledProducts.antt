-- Products: what the coefficients of one item do, and what those of both do.
use Rattle.std.proofs.Common.{◌≡◌, ◌⊎◌, inl, inr, zero, suc, ◌+◌, ◌≤◌, Bool, true, false, true≢false, cond, ◌&&◌, ℤ, pos, negsuc, ◌*ℤ◌, ◌≤ℤ◌, int_le, Result, Ok, Err, refl, sym, ap, ◌∙◌, subst, arith}
use Rattle.std.proofs.lemmas.Int.{ints, clamps, fits_signed_mul}
use Rattle.std.specs.Int.{int_min, int_max}
use Rattle.std.specs.Prelude.{FitsSigned, unsigned_abs}
use borrow.Author.Differences.{product_is}
use mir.Syntax.{w128}
use Rattle.apl_array.specs.declared.function.ScalarFunction.TheVariants.{Times}
use Rattle.apl_array.specs.Range.{in_range}
use Rattle.apl_pool.specs.declared.kernel.Fault.{Fault}
use Rattle.apl_pool.specs.declared.kernel.Fault.TheVariants.{Limit}
use Rattle.apl_pool.specs.Summaries.{IsI64, and_then}
use Rattle.apl_scalar.specs.Scalar.{dyadic_numbers}
use Rattle.apl_summary.specs.declared.coefficients.Coefficients.{Coefficients}
use Rattle.apl_summary.specs.Coefficients.{IsHeld, held, coefficients_of_one, coefficients_of_both, products_keep_range, scaled_outcome, AreCoefficients}
use Rattle.apl_summary.proofs.Products.{mul_assoc_ℤ, mul_up, mul_down}

true_at : (a b : ℤ) → int_le a b ≡ true → a ≤ℤ b
true_at a b e = grind (arith, ints)

at_true : (a b : ℤ) → a ≤ℤ b → int_le a b ≡ true
at_true a b h = grind (arith, ints)

by_test : (b : Bool) (P : Type 0) → (b ≡ true → P) → (b ≡ false → P) → P
by_test true P f g = f refl
by_test false P f g = g refl

both_true : (a b : Bool) → a && b ≡ true → (a ≡ true) × (b ≡ true)
both_true true b e = (refl, e)
both_true false b e = absurd (cc)

true_both : (a b : Bool) → a ≡ true → b ≡ true → a && b ≡ true
true_both true b p q = q
true_both false b p q = absurd (cc)

pub in_range_to : (v : ℤ) → IsI64 v → in_range v ≡ true
in_range_to v h = true_both _ _ (at_true _ _ h.0) (at_true _ _ h.1)

pub in_range_from : (v : ℤ) → in_range v ≡ true → IsI64 v
in_range_from v e = let p = both_true _ _ e in (true_at _ _ p.0, true_at _ _ p.1)

ok_of : (b : Bool) (x v : ℤ) → cond b (Ok x) (Err Limit) ≡ Ok v → (b ≡ true) × (x ≡ v)
ok_of true x v h = (refl, cc)
ok_of false x v h = absurd (cc)

-- a product in the range has a factor of 0 on the right, or a left one within 9223372036854775808
near : (x r : ℤ) → IsI64 (x *ℤ r) → ((negsuc 9223372036854775807 ≤ℤ x) × (x ≤ℤ pos 9223372036854775808)) ⊎ (r ≡ pos 0)
near x (pos zero) h = inr refl
near (pos m) (pos (suc n)) h = inl (omega (arith, ints, h.0, h.1, product_is (pos m) (pos (suc n))), omega (arith, ints, h.0, h.1, product_is (pos m) (pos (suc n))))
near (negsuc m) (pos (suc n)) h = inl (omega (arith, ints, h.0, h.1, product_is (negsuc m) (pos (suc n))), omega (arith, ints, h.0, h.1, product_is (negsuc m) (pos (suc n))))
near (pos m) (negsuc n) h = inl (omega (arith, ints, h.0, h.1, product_is (pos m) (negsuc n)), omega (arith, ints, h.0, h.1, product_is (pos m) (negsuc n)))
near (negsuc m) (negsuc n) h = inl (omega (arith, ints, h.0, h.1, product_is (negsuc m) (negsuc n)), omega (arith, ints, h.0, h.1, product_is (negsuc m) (negsuc n)))

none : (x y r : ℤ) → r ≡ pos 0 → x *ℤ r ≡ y *ℤ r
none x y r e = subst (λ (k : ℤ). x *ℤ k ≡ y *ℤ k) (sym e) (omega (arith, ints, product_is x (pos 0), product_is y (pos 0)))

-- what is held does to what comes in what the exact coefficient does
pub held_keeps : (x r : ℤ) → IsI64 (x *ℤ r) → held x *ℤ r ≡ x *ℤ r
held_keeps x r h = by_sum (near x r h) where
  by_sum : ((negsuc 9223372036854775807 ≤ℤ x) × (x ≤ℤ pos 9223372036854775808)) ⊎ (r ≡ pos 0) → held x *ℤ r ≡ x *ℤ r
  by_sum (inl i) = let e : held x ≡ x = omega (arith, ints, clamps, i.0, i.1) in ap (λ (k : ℤ). k *ℤ r) e
  by_sum (inr e) = none (held x) x r e

pub held_tells : (x r : ℤ) → IsI64 (held x *ℤ r) → held x *ℤ r ≡ x *ℤ r
held_tells x r h = by_sum (near (held x) r h) where
  by_sum : ((negsuc 9223372036854775807 ≤ℤ held x) × (held x ≤ℤ pos 9223372036854775808)) ⊎ (r ≡ pos 0) → held x *ℤ r ≡ x *ℤ r
  by_sum (inl i) = let e : held x ≡ x = omega (arith, ints, clamps, i.0, i.1) in ap (λ (k : ℤ). k *ℤ r) e
  by_sum (inr e) = none (held x) x r e

-- between two products in the range lies no other
between : (l t h r : ℤ) → l ≤ℤ t → t ≤ℤ h → IsI64 (l *ℤ r) → IsI64 (h *ℤ r) → IsI64 (t *ℤ r)
between l t h (pos n) p q a b = let up_l = mul_up l t (pos n) p (omega (arith, ints)) in let up_h = mul_up t h (pos n) q (omega (arith, ints)) in (omega (arith, ints, up_l, a.0), omega (arith, ints, up_h, b.1))
between l t h (negsuc n) p q a b = let down_l = mul_down l t (negsuc n) p (omega (arith, ints)) in let down_h = mul_down t h (negsuc n) q (omega (arith, ints)) in (omega (arith, ints, down_h, b.0), omega (arith, ints, down_l, a.1))

least_in : (x y r : ℤ) → IsI64 (x *ℤ r) → IsI64 (y *ℤ r) → IsI64 (int_min x y *ℤ r)
least_in x y r a b = by_test (int_le x y) (IsI64 (int_min x y *ℤ r))
    (λ e. let l = true_at x y e in let m : int_min x y ≡ x = omega (arith, ints, clamps, l) in subst (λ (k : ℤ). IsI64 (k *ℤ r)) (sym m) a)
    (λ e. let m : int_min x y ≡ y = grind (arith, ints) in subst (λ (k : ℤ). IsI64 (k *ℤ r)) (sym m) b)

greatest_in : (x y r : ℤ) → IsI64 (x *ℤ r) → IsI64 (y *ℤ r) → IsI64 (int_max x y *ℤ r)
greatest_in x y r a b = by_test (int_le x y) (IsI64 (int_max x y *ℤ r))
    (λ e. let l = true_at x y e in let m : int_max x y ≡ y = omega (arith, ints, clamps, l) in subst (λ (k : ℤ). IsI64 (k *ℤ r)) (sym m) b)
    (λ e. let m : int_max x y ≡ x = grind (arith, ints) in subst (λ (k : ℤ). IsI64 (k *ℤ r)) (sym m) a)

abbrev KeepRange : Coefficients → ℤ → Type 0
KeepRange p r = IsI64 (p.least *ℤ r) × IsI64 (p.greatest *ℤ r)

scales_from : (p : Coefficients) (r : ℤ) → products_keep_range p r ≡ true → KeepRange p r
scales_from p r e = let q = both_true _ _ e in (in_range_from _ q.0, in_range_from _ q.1)

scales_to : (p : Coefficients) (r : ℤ) → KeepRange p r → products_keep_range p r ≡ true
scales_to p r h = true_both _ _ (in_range_to _ h.0) (in_range_to _ h.1)

pub total_in : (p : Coefficients) (r : ℤ) → AreCoefficients p → products_keep_range p r ≡ true → IsI64 (p.total *ℤ r)
total_in p r g e = let h = scales_from p r e in between p.least p.total p.greatest r g.total_above g.total_below h.0 h.1

pub scaled_in_range : (p : Coefficients) (r v : ℤ) → AreCoefficients p → IsI64 r → scaled_outcome p r ≡ Ok v → IsI64 v
scaled_in_range p r v g h e = let q = ok_of (products_keep_range p r) (p.total *ℤ r) v e in subst IsI64 q.1 (total_in p r g q.0)

-- the outcome of a chunk of one item
pub one_is : (x r : ℤ) → scaled_outcome (coefficients_of_one x) r ≡ dyadic_numbers Times x r
one_is x r = ap (λ (b : Bool). cond b (Ok (x *ℤ r)) (Err Limit)) (twice (in_range (x *ℤ r))) where
  twice : (b : Bool) → b && b ≡ b
  twice true = refl
  twice false = refl

in_exact : (x r : ℤ) → IsI64 (held x *ℤ r) → IsI64 (x *ℤ r)
in_exact x r h = subst IsI64 (held_tells x r h) h

exact_in : (x r : ℤ) → IsI64 (x *ℤ r) → IsI64 (held x *ℤ r)
exact_in x r h = subst IsI64 (sym (held_keeps x r h)) h

right_scales : (a b : Coefficients) (r : ℤ) → AreCoefficients b → KeepRange (coefficients_of_both a b) r → KeepRange b r
right_scales a b r h s =
    let j : Coefficients = coefficients_of_both a b in
    let u = h.total_above in let v = h.total_below in (
      between j.least b.least j.greatest r (omega (arith, ints, clamps)) (omega (arith, ints, clamps, u, v)) s.0 s.1,
      between j.least b.greatest j.greatest r (omega (arith, ints, clamps, u, v)) (omega (arith, ints, clamps)) s.0 s.1,
    )

left_scales : (a b : Coefficients) (r : ℤ) → AreCoefficients b → KeepRange (coefficients_of_both a b) r → KeepRange a (b.total *ℤ r)
left_scales a b r h s =
    let j : Coefficients = coefficients_of_both a b in
    let x : ℤ = held (a.least *ℤ b.total) in let y : ℤ = held (a.greatest *ℤ b.total) in
    let l = ends_in b.least x y b.greatest r (omega (arith, ints, h.total_above, h.total_below)) s in
    (subst IsI64 (mul_assoc_ℤ a.least b.total r) (in_exact (a.least *ℤ b.total) r l.0), subst IsI64 (mul_assoc_ℤ a.greatest b.total r) (in_exact (a.greatest *ℤ b.total) r l.1)) where
      ends_in : (l x y g r : ℤ) → l ≤ℤ g → IsI64 (int_min l (int_min x y) *ℤ r) × IsI64 (int_max g (int_max x y) *ℤ r) → IsI64 (x *ℤ r) × IsI64 (y *ℤ r)
      ends_in l x y g r o s = (
        between (int_min l (int_min x y)) x (int_max g (int_max x y)) r (omega (arith, ints, clamps)) (omega (arith, ints, clamps)) s.0 s.1,
        between (int_min l (int_min x y)) y (int_max g (int_max x y)) r (omega (arith, ints, clamps)) (omega (arith, ints, clamps)) s.0 s.1,
      )

both_scale : (a b : Coefficients) (r : ℤ) → KeepRange b r → KeepRange a (b.total *ℤ r) → KeepRange (coefficients_of_both a b) r
both_scale a b r s t =
    let x = exact_in (a.least *ℤ b.total) r (subst IsI64 (sym (mul_assoc_ℤ a.least b.total r)) t.0) in
    let y = exact_in (a.greatest *ℤ b.total) r (subst IsI64 (sym (mul_assoc_ℤ a.greatest b.total r)) t.1) in
    (least_in _ _ r s.0 (least_in _ _ r x y), greatest_in _ _ r s.1 (greatest_in _ _ r x y))

scaled_ok : (p : Coefficients) (r : ℤ) → KeepRange p r → scaled_outcome p r ≡ Ok (p.total *ℤ r)
scaled_ok p r h = ap (λ (b : Bool). cond b (Ok (p.total *ℤ r)) (Err Limit)) (scales_to p r h)

scaled_err : (p : Coefficients) (r : ℤ) → products_keep_range p r ≡ false → scaled_outcome p r ≡ Err Limit
scaled_err p r e = ap (λ (b : Bool). cond b (Ok (p.total *ℤ r)) (Err Limit)) e

scaled_not : (p : Coefficients) (r : ℤ) → (KeepRange p r → ⊥) → scaled_outcome p r ≡ Err Limit
scaled_not p r n = by_test (products_keep_range p r) (scaled_outcome p r ≡ Err Limit) (λ e. absurd (n (scales_from p r e))) (λ e. scaled_err p r e)

-- the left chunk's outcome on what the right one gives
pub joined_outcome : (a b : Coefficients) (r : ℤ) → AreCoefficients a → AreCoefficients b → scaled_outcome (coefficients_of_both a b) r ≡ and_then (scaled_outcome b r) (scaled_outcome a)
joined_outcome a b r g h =
    let j : Coefficients = coefficients_of_both a b in
    let v : ℤ = b.total *ℤ r in
    by_test (products_keep_range b r) (scaled_outcome j r ≡ and_then (scaled_outcome b r) (scaled_outcome a))
    (λ e. let s = scales_from b r e in
    let rest : and_then (scaled_outcome b r) (scaled_outcome a) ≡ scaled_outcome a v = ap (λ (o : Result ℤ Fault). and_then o (scaled_outcome a)) (scaled_ok b r s) in
    by_test (products_keep_range a v) (scaled_outcome j r ≡ and_then (scaled_outcome b r) (scaled_outcome a))
    (λ f. let t = scales_from a v f in
    let exact : (a.total *ℤ b.total) *ℤ r ≡ a.total *ℤ v = mul_assoc_ℤ a.total b.total r in
    scaled_ok j r (both_scale a b r s t)
    ∙ ap (λ (x : ℤ). Ok x) (held_keeps (a.total *ℤ b.total) r (subst IsI64 (sym exact) (total_in a v g f)) ∙ exact)
    ∙ sym (scaled_ok a v t) ∙ sym rest)
    (λ f. scaled_not j r (λ t. true≢false (sym (scales_to a v (left_scales a b r h t)) ∙ f)) ∙ sym (scaled_err a v f) ∙ sym rest))
    (λ e. scaled_not j r (λ t. true≢false (sym (scales_to b r (right_scales a b r h t)) ∙ e)) ∙ sym (ap (λ (o : Result ℤ Fault). and_then o (scaled_outcome a)) (scaled_err b r e)))

pub one_are : (x : ℤ) → IsI64 x → AreCoefficients (coefficients_of_one x)
one_are x h = record {
  some_items = omega arith;
  most_items = omega arith;
  least_held = omega (arith, ints, h.0);
  total_above = omega (arith, ints);
  total_below = omega (arith, ints);
  greatest_held = omega (arith, ints, h.1);
}

-- the whole coefficient stays between the ends
middle : (l t h s : ℤ) → l ≤ℤ t → t ≤ℤ h → (int_min (held (l *ℤ s)) (held (h *ℤ s)) ≤ℤ held (t *ℤ s)) × (held (t *ℤ s) ≤ℤ int_max (held (l *ℤ s)) (held (h *ℤ s)))
middle l t h (pos n) p q = let a = mul_up l t (pos n) p (omega (arith, ints)) in let b = mul_up t h (pos n) q (omega (arith, ints)) in held_middle _ _ _ a b
  where
    held_middle : (x y z : ℤ) → x ≤ℤ y → y ≤ℤ z → (int_min (held x) (held z) ≤ℤ held y) × (held y ≤ℤ int_max (held x) (held z))
    held_middle x y z a b = (omega (arith, ints, clamps, a, b), omega (arith, ints, clamps, a, b))
middle l t h (negsuc n) p q = let a = mul_down l t (negsuc n) p (omega (arith, ints)) in let b = mul_down t h (negsuc n) q (omega (arith, ints)) in held_middle _ _ _ b a
  where
    held_middle : (z y x : ℤ) → z ≤ℤ y → y ≤ℤ x → (int_min (held x) (held z) ≤ℤ held y) × (held y ≤ℤ int_max (held x) (held z))
    held_middle z y x a b = (omega (arith, ints, clamps, a, b), omega (arith, ints, clamps, a, b))

held_is : (x : ℤ) → IsHeld (held x)
held_is x = (omega (arith, ints, clamps), omega (arith, ints, clamps))

least_is_held : (x y : ℤ) → negsuc 9223372036854775808 ≤ℤ x → negsuc 9223372036854775808 ≤ℤ y → negsuc 9223372036854775808 ≤ℤ int_min x y
least_is_held x y a b = omega (arith, ints, clamps, a, b)

greatest_is_held : (x y : ℤ) → x ≤ℤ pos 9223372036854775809 → y ≤ℤ pos 9223372036854775809 → int_max x y ≤ℤ pos 9223372036854775809
greatest_is_held x y a b = omega (arith, ints, clamps, a, b)

under_least : (x y z : ℤ) → y ≤ℤ z → int_min x y ≤ℤ z
under_least x y z a = omega (arith, ints, clamps, a)

over_greatest : (x y z : ℤ) → z ≤ℤ y → z ≤ℤ int_max x y
over_greatest x y z a = omega (arith, ints, clamps, a)

pub joined_are : (a b : Coefficients) → AreCoefficients a → AreCoefficients b → a.count + b.count ≤ 1073741824 → AreCoefficients (coefficients_of_both a b)
joined_are a b g h few =
    let m = middle a.least a.total a.greatest b.total g.total_above g.total_below in
    let x = held_is (a.least *ℤ b.total) in let y = held_is (a.greatest *ℤ b.total) in
    record {
      some_items = omega (arith, g.some_items);
      most_items = few;
      least_held = least_is_held _ _ h.least_held (least_is_held _ _ x.0 y.0);
      total_above = under_least _ _ _ m.0;
      total_below = over_greatest _ _ _ m.1;
      greatest_held = greatest_is_held _ _ h.greatest_held (greatest_is_held _ _ x.1 y.1);
    }

-- products of what is held fit 128 bits
within_abs : (x : ℤ) → IsHeld x → unsigned_abs x ≤ 9223372036854775809
within_abs (pos n) h = omega (arith, ints, h.1)
within_abs (negsuc n) h = omega (arith, ints, h.0)

pub product_fits : (a b : ℤ) → IsHeld a → IsHeld b → FitsSigned w128 (a *ℤ b)
product_fits a b g h = fits_signed_mul w128 a b 9223372036854775809 9223372036854775809 (within_abs a g) (within_abs b h) (omega arith)

pub total_held : (p : Coefficients) → AreCoefficients p → IsHeld p.total
total_held p g = (omega (arith, ints, g.least_held, g.total_above), omega (arith, ints, g.total_below, g.greatest_held))
