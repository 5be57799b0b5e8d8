-- The value of digits, from the first on.
use Rattle.std.proofs.Common.{◌≡◌, ℕ, zero, suc, ◌+◌, ◌<◌, ◌≤◌, ℤ, pos, negsuc, ◌+ℤ◌, ◌-ℤ◌, ◌*ℤ◌, Bool, true, false, Ok, Err, List, [], ◌∷◌, ◌++◌, length, take, get_or, add-one, refl, sym, ap, subst, ◌∙◌, ⊎_elim, arith}
use Rattle.std.specs.List.{list_all, range_with_len}
use Rattle.std.proofs.lemmas.Int.{ints}
use Rattle.std.proofs.lemmas.Bool.{cases_Bool, cases_lt}
use Rattle.std.proofs.lemmas.List.{length-replicate, take_all}
use Rattle.std.proofs.lemmas.List.Folds.{list_all_at}
use Rattle.std.proofs.lemmas.List.FromFn.{get_or-range_with_len, length-range_with_len}
use Rattle.std.proofs.Math.IntN.{+ℤ_one, -ℤ_one, suc_ℤ-*ℤ, pred_ℤ-*ℤ, zero-*ℤ, *ℤ-one, *ℤ_comm}
use Rattle.std.proofs.Math.Seq.{take-suc}
use Rattle.std.specs.Prelude.{slice_index_or}
use Rattle.apl_array.specs.declared.array.Elem.TheVariants.{Int}
use Rattle.apl_array.specs.Range.{in_range}
use Rattle.apl_pool.specs.declared.kernel.Fault.{Fault}
use Rattle.apl_pool.specs.declared.kernel.Fault.TheVariants.{Limit}
use Rattle.apl_answer.specs.Elements.{element_outcome}
use Rattle.apl_scalar.specs.Scalar.{exact}
use Rattle.apl_reduce.specs.Decoding.{product, decoded}
use Rattle.apl_reduce.specs.Fronts.{served, front_value, decoded_number}

-- ---- products of whole numbers

next_times : (m k : ℤ) → (m +ℤ pos 1) *ℤ k ≡ m *ℤ k +ℤ k
next_times m k = ap (λ x. x *ℤ k) (+ℤ_one m) ∙ suc_ℤ-*ℤ m k

back_times : (m k : ℤ) → (m -ℤ pos 1) *ℤ k ≡ m *ℤ k -ℤ k
back_times m k = ap (λ x. x *ℤ k) (-ℤ_one m) ∙ pred_ℤ-*ℤ m k

pub times_sum : (x y z : ℤ) → (x +ℤ y) *ℤ z ≡ x *ℤ z +ℤ y *ℤ z
times_sum (pos zero) y z =
    let e : pos zero +ℤ y ≡ y = omega (arith, ints) in
    rw (e, zero-*ℤ z) (omega (arith, ints))
times_sum (pos (suc n)) y z =
    let e : pos (suc n) +ℤ y ≡ (pos n +ℤ y) +ℤ pos 1 = omega (arith, ints) in
    let before = times_sum (pos n) y z in
    let own = suc_ℤ-*ℤ (pos n) z in
    ap (λ x. x *ℤ z) e ∙ next_times (pos n +ℤ y) z ∙ omega (arith, ints, before, own)
times_sum (negsuc zero) y z =
    let e : negsuc zero +ℤ y ≡ y -ℤ pos 1 = omega (arith, ints) in
    let own = pred_ℤ-*ℤ (pos zero) z in
    ap (λ x. x *ℤ z) e ∙ back_times y z ∙ omega (arith, ints, own, zero-*ℤ z)
times_sum (negsuc (suc n)) y z =
    let e : negsuc (suc n) +ℤ y ≡ (negsuc n +ℤ y) -ℤ pos 1 = omega (arith, ints) in
    let before = times_sum (negsuc n) y z in
    let own = pred_ℤ-*ℤ (negsuc n) z in
    ap (λ x. x *ℤ z) e ∙ back_times (negsuc n +ℤ y) z ∙ omega (arith, ints, before, own)

pub times_difference : (x y z : ℤ) → (x -ℤ y) *ℤ z ≡ x *ℤ z -ℤ y *ℤ z
times_difference x y z =
    let e : (x -ℤ y) +ℤ y ≡ x = omega (arith, ints) in
    let all : x *ℤ z ≡ (x -ℤ y) *ℤ z +ℤ y *ℤ z = ap (λ v. v *ℤ z) (sym e) ∙ times_sum (x -ℤ y) y z in
    omega (arith, ints, all)

pub times_grouped : (x y z : ℤ) → (x *ℤ y) *ℤ z ≡ x *ℤ (y *ℤ z)
times_grouped (pos zero) y z = ap (λ x. x *ℤ z) (zero-*ℤ y) ∙ zero-*ℤ z ∙ sym (zero-*ℤ (y *ℤ z))
times_grouped (pos (suc n)) y z =
    ap (λ x. x *ℤ z) (suc_ℤ-*ℤ (pos n) y) ∙ times_sum (pos n *ℤ y) y z ∙ ap (λ x. x +ℤ y *ℤ z) (times_grouped (pos n) y z) ∙ sym (suc_ℤ-*ℤ (pos n) (y *ℤ z))
times_grouped (negsuc zero) y z =
    let none : (pos zero *ℤ y) *ℤ z ≡ pos zero *ℤ (y *ℤ z) = ap (λ x. x *ℤ z) (zero-*ℤ y) ∙ zero-*ℤ z ∙ sym (zero-*ℤ (y *ℤ z)) in
    ap (λ x. x *ℤ z) (pred_ℤ-*ℤ (pos zero) y) ∙ times_difference (pos zero *ℤ y) y z ∙ ap (λ x. x -ℤ y *ℤ z) none ∙ sym (pred_ℤ-*ℤ (pos zero) (y *ℤ z))
times_grouped (negsuc (suc n)) y z =
    ap (λ x. x *ℤ z) (pred_ℤ-*ℤ (negsuc n) y) ∙ times_difference (negsuc n *ℤ y) y z ∙ ap (λ x. x -ℤ y *ℤ z) (times_grouped (negsuc n) y z) ∙ sym (pred_ℤ-*ℤ (negsuc n) (y *ℤ z))

one_more : (d p v a b : ℤ) → d *ℤ (p *ℤ a) +ℤ (v *ℤ a +ℤ b) ≡ (d *ℤ p +ℤ v) *ℤ a +ℤ b
one_more d p v a b =
    let sums = times_sum (d *ℤ p) v a in
    let groups = times_grouped d p a in
    omega (arith, ints, sums, groups)

-- ---- one digit more

product_last : (radices : List ℤ) (a : ℤ) → product (radices ++ a ∷ []) ≡ product radices *ℤ a
product_last [] a = *ℤ_comm a (pos 1)
product_last (r ∷ radices) a = ap (λ p. r *ℤ p) (product_last radices a) ∙ sym (times_grouped r (product radices) a)

front_next : (radices digits : List ℤ) (k : ℕ) → k < length radices → k < length digits
    → front_value radices digits (suc k) ≡ front_value radices digits k *ℤ get_or radices k (pos 0) +ℤ get_or digits k (pos 0)
front_next [] digits k inside within = absurd (omega arith)
front_next (a ∷ radices) [] k inside within = absurd (omega arith)
front_next (a ∷ radices) (b ∷ digits) zero inside within = omega (arith, ints, *ℤ-one b, zero-*ℤ a)
front_next (a ∷ radices) (b ∷ digits) (suc k) inside within =
    let here : k < length radices = omega arith in
    let more = front_next radices digits k here (omega arith) in
    let products : product (take (suc k) radices) ≡ product (take k radices) *ℤ get_or radices k (pos 0) =
    ap product (take-suc radices k (pos 0) here) ∙ product_last (take k radices) (get_or radices k (pos 0)) in
    ap (λ p. b *ℤ p +ℤ front_value radices digits (suc k)) products
    ∙ ap (λ v. b *ℤ (product (take k radices) *ℤ get_or radices k (pos 0)) +ℤ v) more
    ∙ one_more b (product (take k radices)) (front_value radices digits k) (get_or radices k (pos 0)) (get_or digits k (pos 0))

-- the value with one digit more is the value times its radix, and the digit
pub front_more : (radices digits : List ℤ) (k : ℕ) → k < length radices → k < length digits
    → front_value radices digits (k + 1) ≡ front_value radices digits k *ℤ get_or radices k (pos 0) +ℤ get_or digits k (pos 0)
front_more radices digits k inside within = rw add-one (front_next radices digits k inside within)

-- ---- the range

pub exact_ok : (z v : ℤ) → exact z ≡ Ok v → (in_range z ≡ true) × (v ≡ z)
exact_ok z v e =
    ⊎_elim
    (λ within. (within, let f = rw within at e in cc))
    (λ past. absurd (let f = rw past at e in cc))
    (cases_Bool (in_range z))

pub exact_err : (z : ℤ) (fault : Fault) → exact z ≡ Err fault → (in_range z ≡ false) × (fault ≡ Limit)
exact_err z fault e =
    ⊎_elim
    (λ within. absurd (let f = rw within at e in cc))
    (λ past. (past, let f = rw past at e in cc))
    (cases_Bool (in_range z))

fronts_in : (p : ℕ → Bool) (a n : ℕ) → ((j : ℕ) → j < a + n → p j ≡ true) → list_all p (range_with_len a n) ≡ true
fronts_in p a zero each = refl
fronts_in p a (suc n) each = rw (each a (omega arith)) (fronts_in p (a + 1) n (λ j below. each j (omega arith)))

-- no front leaves the range
pub decoded_all : (n : ℕ) (radices digits : List ℤ) (v : ℤ) → length radices ≡ n → length digits ≡ n → v ≡ front_value radices digits n
    → ((j : ℕ) → j ≤ n → in_range (front_value radices digits j) ≡ true) → Ok v ≡ decoded_number n radices digits
decoded_all n radices digits v radix_each digit_each is each =
    let test = fronts_in (λ k. in_range (front_value radices digits k)) 0 (n + 1) (λ j below. each j (omega arith)) in
    rw (test, is, take_all n radices (omega arith), take_all n digits (omega arith)) refl

-- a front leaves it
pub decoded_none : (n : ℕ) (radices digits : List ℤ) (k : ℕ) → k ≤ n → in_range (front_value radices digits k) ≡ false → Err Limit ≡ decoded_number n radices digits
decoded_none n radices digits k inside past =
    let p : ℕ → Bool = λ j. in_range (front_value radices digits j) in
    let here : get_or (range_with_len 0 (n + 1)) k 0 ≡ k = get_or-range_with_len 0 (n + 1) k 0 (omega arith) ∙ omega arith in
    let test = list_all_at p (range_with_len 0 (n + 1)) k 0 (omega (arith, length-range_with_len 0 (n + 1))) (ap p here ∙ past) in
    rw test refl

-- ---- the walk over the digits

next_value : (radices digits : List ℤ) (k : ℕ) (v a b : ℤ) → k < length radices → k < length digits → v ≡ front_value radices digits k → a ≡ get_or radices k (pos 0) → b ≡ get_or digits k (pos 0)
    → v *ℤ a +ℤ b ≡ front_value radices digits (k + 1)
next_value radices digits k v a b inside within value radix digit = rw (value, radix, digit) (sym (front_more radices digits k inside within))

pub next_kept : (radices digits : List ℤ) (k : ℕ) (v a b r : ℤ) → k < length radices → k < length digits → v ≡ front_value radices digits k → a ≡ get_or radices k (pos 0) → b ≡ get_or digits k (pos 0)
    → ((j : ℕ) → j ≤ k → in_range (front_value radices digits j) ≡ true) → Ok r ≡ exact (v *ℤ a +ℤ b)
    → (r ≡ front_value radices digits (k + 1)) × ((j : ℕ) → j ≤ k + 1 → in_range (front_value radices digits j) ≡ true)
next_kept radices digits k v a b r inside within value radix digit fronts is =
    let next = next_value radices digits k v a b inside within value radix digit in
    let kept = exact_ok (v *ℤ a +ℤ b) r (sym is) in (
      kept.1 ∙ next,
      λ j below.
          ⊎_elim
          (λ earlier. fronts j (omega arith))
          (λ last.
          let here : k + 1 ≡ j = omega arith in
          subst (λ i. in_range (front_value radices digits i) ≡ true) here (ap in_range (sym next) ∙ kept.0))
          (cases_lt j (k + 1)),
    )

pub next_refused : (n : ℕ) (radices digits : List ℤ) (k : ℕ) (v a b : ℤ) (fault : Fault) → length radices ≡ n → length digits ≡ n → k < n → v ≡ front_value radices digits k
    → a ≡ get_or radices k (pos 0) → b ≡ get_or digits k (pos 0) → Err fault ≡ exact (v *ℤ a +ℤ b) → Err fault ≡ decoded_number n radices digits
next_refused n radices digits k v a b fault radix_each digit_each inside value radix digit is =
    let next = next_value radices digits k v a b (omega arith) (omega arith) value radix digit in
    let past = exact_err (v *ℤ a +ℤ b) fault (sym is) in
    ap Err past.1 ∙ decoded_none n radices digits (k + 1) (omega arith) (ap in_range (sym next) ∙ past.0)

-- ---- as elements

pub decoded_element : (n : ℕ) (radices digits : List ℤ) → element_outcome Int (decoded_number n radices digits) ≡ decoded n radices digits
decoded_element n radices digits =
    ⊎_elim
    (λ within. rw within refl)
    (λ past. rw past refl)
    (cases_Bool (list_all (λ k. in_range (front_value radices digits k)) (range_with_len 0 (n + 1))))

-- ---- a number that serves all digits

pub served_each : (n : ℕ) (is_single : Bool) (numbers : List ℤ) → (is_single ≡ false → length numbers ≡ n) → length (served n is_single numbers) ≡ n
served_each n true numbers each = length-replicate n (slice_index_or numbers 0 (pos 0))
served_each n false numbers each = each refl
