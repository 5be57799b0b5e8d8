-- What radices carry, as one division.
use Rattle.std.proofs.Common.{◌≡◌, ◌≢◌, ℕ, zero, suc, ◌+◌, ◌-◌, ◌*◌, ◌<◌, ◌≤◌, length, drop, get_or, set, sub-one, subst, get_or-set_other, get_or-set_same, ℤ, pos, negsuc, ◌*ℤ◌, List, [], ◌∷◌, true, refl, sym, ap, ◌∙◌, ⊎_elim, arith}
use Rattle.std.proofs.lemmas.Int.{ints}
use Rattle.std.proofs.lemmas.Bool.{cases_Bool, cases_lt, lt-ltb}
use Rattle.std.proofs.lemmas.Bool.Decides.{Decides-int_eq}
use Rattle.std.specs.Prelude.{unsigned_abs, ◌<ℤ◌}
use Rattle.std.specs.Ordering.{int_eq}
use Rattle.std.proofs.Math.Seq.{drop-cons}
use Rattle.apl_array.specs.Range.{IsInRange}
use Rattle.apl_scalar.specs.Arithmetic.{floor_quotient}
use Rattle.apl_reduce.specs.declared.carry_divisor.CarryDivisor.{CarryDivisor}
use Rattle.apl_reduce.specs.declared.carry_divisor.CarryDivisor.TheVariants.{Product}
use Rattle.apl_reduce.specs.Encoding.{carried, carry_past}
use Rattle.apl_reduce.specs.Carrying.{carry_by, is_above_zero, StandsFor}
use Rattle.apl_reduce.proofs.Quotients.{floor_twice, floor_near}

-- the elements from a place on
pub from_place : {T : Type 0} (xs : List T) (k : ℕ) (d : T) → 0 < k → k ≤ length xs → drop (k - 1) xs ≡ get_or xs (k - 1) d ∷ drop k xs
from_place xs zero d some inside = absurd (omega arith)
from_place xs (suc k) d some inside = rw sub-one (drop-cons xs k d (omega arith))

-- within a list nothing stands in for an element
pub get_inside : {T : Type 0} (xs : List T) (k : ℕ) (d e : T) → k < length xs → get_or xs k d ≡ get_or xs k e
get_inside [] k d e inside = absurd (omega arith)
get_inside (x ∷ xs) zero d e inside = refl
get_inside (x ∷ xs) (suc k) d e inside = get_inside xs k d e (omega arith)

-- written down from the last place
pub set_down : {T : Type 0} (xs : List T) (k : ℕ) (x d : T) (P : ℕ → T → Type 0) → k < length xs → P k x
    → ((j : ℕ) → k + 1 ≤ j → j < length xs → P j (get_or xs j d)) → (j : ℕ) → k ≤ j → j < length xs → P j (get_or (set xs k x) j d)
set_down xs k x d P inside here later j from within =
    ⊎_elim
    (λ above.
    let ne : j ≢ k = omega arith in
    rw get_or-set_other (later j (omega arith) within))
    (λ below.
    let is : k ≡ j = omega arith in
    subst (λ i. P i (get_or (set xs k x) i d)) is (subst (P k) (sym (get_or-set_same xs k x d inside)) here))
    (cases_lt k j)

-- past a radix that is not 0 its quotient is carried
pub carried_some : (a c : ℤ) → (a ≡ pos 0 → ⊥) → carried a c ≡ floor_quotient c a
carried_some a c some =
    ⊎_elim
    (λ is. absurd (some ((Decides-int_eq a (pos 0)).0 is)))
    (λ is_not. rw is_not refl)
    (cases_Bool (int_eq a (pos 0)))

some_natural : (n : ℕ) → pos (suc n) ≡ pos 0 → ⊥
some_natural n e = absurd (omega (arith, ints, e))

-- a product that numbers are divided by is above 0
pub above_zero : (p : ℤ) (radices : List ℤ) → StandsFor (Product p) radices → pos 0 <ℤ p
above_zero (pos zero) radices stands = absurd (let e = stands.above in cc)
above_zero (pos (suc n)) radices stands = omega (arith, ints)
above_zero (negsuc n) radices stands = absurd (let e = stands.above in cc)

-- one radix more, in front of the others
pub in_front : (behind next : CarryDivisor) (a : ℤ) (radices : List ℤ) → StandsFor behind radices → is_above_zero next ≡ true
    → ((b : ℤ) → IsInRange b → carry_by next b ≡ carried a (carry_by behind b)) → StandsFor next (a ∷ radices)
in_front behind next a radices stands above is = record {
  above = above;
  carries = λ b inside. is b inside ∙ ap (carried a) (stands.carries b inside);
}

-- a number by a product and then by one more radix
radix_twice : (b : ℤ) (m n : ℕ) → floor_quotient b (pos (suc m * suc n)) ≡ carried (pos (suc n)) (floor_quotient b (pos (suc m)))
radix_twice b m n = sym (carried_some (pos (suc n)) (floor_quotient b (pos (suc m))) (some_natural n) ∙ floor_twice b (suc m) (suc n))

pub product_step : (p a : ℤ) (radices : List ℤ) → StandsFor (Product p) radices → pos 0 <ℤ a → StandsFor (Product (p *ℤ a)) (a ∷ radices)
product_step p (pos zero) radices stands above = absurd (omega (arith, ints))
product_step (pos zero) (pos (suc n)) radices stands above = absurd (let e = stands.above in cc)
product_step (negsuc m) (pos (suc n)) radices stands above = absurd (let e = stands.above in cc)
product_step (pos (suc m)) (pos (suc n)) radices stands above =
    in_front (Product (pos (suc m))) (Product (pos (suc m * suc n))) (pos (suc n)) radices stands (lt-ltb 0 (suc m * suc n) (omega arith))
    (λ b inside. radix_twice b m n)
product_step p (negsuc n) radices stands above = absurd (omega (arith, ints))

-- what is carried is no further from 0 than the number
carried_near : (a c : ℤ) → unsigned_abs (carried a c) ≤ unsigned_abs c
carried_near (pos zero) c = omega arith
carried_near (pos (suc n)) c = rw (carried_some (pos (suc n)) c (some_natural n)) (floor_near c (pos (suc n)) (some_natural n))
carried_near (negsuc n) c =
    let some : negsuc n ≡ pos 0 → ⊥ = λ e. absurd (omega (arith, ints, e)) in
    rw (carried_some (negsuc n) c some) (floor_near c (negsuc n) some)

pub carry_near : (radices : List ℤ) (b : ℤ) → unsigned_abs (carry_past radices b) ≤ unsigned_abs b
carry_near [] b = omega arith
carry_near (a ∷ radices) b = let h = carried_near a (carry_past radices b) in let i = carry_near radices b in omega (arith, h, i)
