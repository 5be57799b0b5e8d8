-- Numbers so small that their plain sum is their fold by `+`.
use Rattle.std.proofs.Common.{◌≡◌, ◌↔◌, ℕ, zero, suc, ℤ, pos, ◌+◌, ◌*◌, ◌^◌, ◌<◌, ◌≤◌, ◌+ℤ◌, FitsSigned, w64, true, List, map, get_or, Result, Ok, refl, sym, ap, ◌∙◌, arith}
use Rattle.std.proofs.Math.IntN.{+ℤ_assoc}
use Rattle.std.proofs.Math.ListN.{get_or-map}
use Rattle.std.specs.Prelude.{unsigned_abs}
use Rattle.std.proofs.lemmas.Int.{ints}
use Rattle.apl_array.specs.declared.array.Elem.{Elem}
use Rattle.apl_array.specs.declared.array.Elem.TheVariants.{Int}
use Rattle.apl_array.specs.declared.function.ScalarFunction.TheVariants.{Plus, Times}
use Rattle.apl_array.specs.Range.{IsInRange, in_range}
use Rattle.apl_pool.specs.declared.kernel.Fault.{Fault}
use Rattle.apl_scalar.specs.Scalar.{dyadic_of, exact}
use Rattle.apl_reduce.specs.declared.layouts.Layout.{Layout}
use Rattle.apl_reduce.specs.Folded.{number_step as element_step, folded}
use Rattle.apl_reduce.specs.Items.{as_number, number_step, folded_from, judged_items, item_in}
use Rattle.apl_reduce.specs.Layouts.{left_place, right_place, product_at, inner_item, inner_number}
use Rattle.apl_reduce.specs.Magnitudes.{magnitude, sum_of}
use Rattle.apl_reduce.proofs.Distances.{product_near, sum_near, fits_near, product_fits}
use Rattle.apl_reduce.proofs.JudgedItems.{judged_value}

-- a number that 64 bits hold is exact
pub exact_fits : (z : ℤ) → ((z : ℤ) → (in_range z ≡ true) ↔ IsInRange z) → ((z : ℤ) → IsInRange z ↔ FitsSigned w64 z) → FitsSigned w64 z → Ok z ≡ exact z
exact_fits z decided bits fits =
    let inside = (decided z).1 ((bits z).1 fits) in
    rw inside refl

add_none : (z : ℤ) → z +ℤ pos 0 ≡ pos 0 +ℤ z
add_none z = omega (arith, ints)

module _ (number : ℕ → ℤ) where
  -- the sum of n numbers from number k on
  abbrev sum_from : ℕ → ℕ → ℤ
  sum_from k zero = pos 0
  sum_from k (suc n) = number k +ℤ sum_from (k + 1) n

  at_end : (k n : ℕ) → sum_from k (suc n) ≡ sum_from k n +ℤ number (k + n)
  at_end k zero = let none : k ≡ k + 0 = omega arith in add_none (number k) ∙ ap (λ i. pos 0 +ℤ number i) none
  at_end k (suc n) =
      let next : k + 1 + n ≡ k + suc n = omega arith in
      ap (λ z. number k +ℤ z) (at_end (k + 1) n ∙ ap (λ i. sum_from (k + 1) n +ℤ number i) next) ∙ sym (+ℤ_assoc (number k) (sum_from (k + 1) n) (number (k + suc n)))

  sum_is : (n : ℕ) → sum_of number n ≡ sum_from 0 n
  sum_is zero = refl
  sum_is (suc n) = let start : 0 + n ≡ n = omega arith in ap (λ z. z +ℤ number n) (sum_is n) ∙ sym (at_end 0 n ∙ ap (λ i. sum_from 0 n +ℤ number i) start)

  module _ (most count : ℕ) (near : (k : ℕ) → k < count → unsigned_abs (number k) ≤ most) where
    sum_from_near : (k n : ℕ) → k + n ≤ count → unsigned_abs (sum_from k n) ≤ n * most
    sum_from_near k zero below = omega arith
    sum_from_near k (suc n) below = omega (arith, sum_near (number k) (sum_from (k + 1) n), near k (omega (arith, below)), sum_from_near (k + 1) n (omega (arith, below)))

    module _ (decided : (z : ℤ) → (in_range z ≡ true) ↔ IsInRange z) (bits : (z : ℤ) → IsInRange z ↔ FitsSigned w64 z) (small : most * count < 2 ^ 63) (item : ℕ → Result ℤ Fault)
        (is : (k : ℕ) → k < count → item k ≡ Ok (number k)) where
      folded_sum : (k more : ℕ) → k + suc more ≤ count → folded_from item Plus k more ≡ Ok (sum_from k (suc more))
      folded_sum k zero below = let same : number k +ℤ pos 0 ≡ number k = omega (arith, ints) in is k (omega (arith, below)) ∙ ap Ok (sym same)
      folded_sum k (suc more) below =
          let fits = fits_near (sum_from k (suc (suc more))) (suc (suc more)) most count (sum_from_near k (suc (suc more)) below) (omega arith) small in
          ap (number_step Plus (item k)) (folded_sum (k + 1) more (omega arith)) ∙ ap (λ r. number_step Plus r (Ok (sum_from (k + 1) (suc more)))) (is k (omega (arith, below))) ∙ sym (exact_fits _ decided bits fits)

      -- of all of them
      pub judged_sum : (n : ℕ) → n ≤ count → Ok (sum_of number n) ≡ as_number (judged_items item Plus n)
      judged_sum zero below = refl
      judged_sum (suc more) below =
          judged_value item Plus more (Ok (sum_of number (suc more))) (ap Ok (sum_is (suc more)) ∙ sym (folded_sum 0 more (omega arith))) refl

    module _ (decided : (z : ℤ) → (in_range z ≡ true) ↔ IsInRange z) (bits : (z : ℤ) → IsInRange z ↔ FitsSigned w64 z) (small : most * count < 2 ^ 63) (element : ℕ → Elem)
        (is : (k : ℕ) → k < count → element k ≡ Int (number k)) where
      elements_from : (k more : ℕ) → k + suc (suc more) ≤ count → folded Plus element k more ≡ Ok (sum_from k (suc (suc more)))
      elements_from k zero below =
          let next : suc k ≡ k + 1 = omega arith in
          let none : number (k + 1) ≡ number (k + 1) +ℤ pos 0 = omega (arith, ints) in
          let fits = fits_near (sum_from k 2) 2 most count (sum_from_near k 2 below) (omega arith) small in
          ap (λ e. dyadic_of Plus e (element (suc k))) (is k (omega (arith, below)))
          ∙ ap (dyadic_of Plus (Int (number k))) (ap element next ∙ is (k + 1) (omega (arith, below)))
          ∙ ap (λ z. exact (number k +ℤ z)) none ∙ sym (exact_fits _ decided bits fits)
      elements_from k (suc more) below =
          let next : suc k ≡ k + 1 = omega arith in
          let n = suc (suc (suc more)) in
          let fits = fits_near (sum_from k n) n most count (sum_from_near k n below) (omega arith) small in
          ap (λ e. element_step Plus e (folded Plus element (suc k) more)) (is k (omega (arith, below)))
          ∙ ap (λ i. element_step Plus (Int (number k)) (folded Plus element i more)) next
          ∙ ap (element_step Plus (Int (number k))) (elements_from (k + 1) more (omega (arith, below)))
          ∙ sym (exact_fits _ decided bits fits)

      -- of two elements and more
      pub elements_sum : (more : ℕ) → suc (suc more) ≤ count → folded Plus element 0 more ≡ Ok (sum_of number (suc (suc more)))
      elements_sum more below = elements_from 0 more (omega (arith, below)) ∙ ap Ok (sym (sum_is (suc (suc more))))

-- ---- an inner product

module _ (decided : (z : ℤ) → (in_range z ≡ true) ↔ IsInRange z) (bits : (z : ℤ) → IsInRange z ↔ FitsSigned w64 z) (layout : Layout) (left right : List ℤ) (place : ℕ)
    (small : magnitude left * magnitude right * layout.items < 2 ^ 63) where
  product_is : 0 < layout.items → (k : ℕ) → inner_item layout (map Int left) (map Int right) Times place k ≡ Ok (product_at layout left right place k)
  product_is some k =
      let i = left_place layout place k in
      let j = right_place layout place k in
      ap (λ x. dyadic_of Times x (item_in (map Int right) j)) (get_or-map Int left i (pos 0)) ∙ ap (dyadic_of Times (Int (get_or left i (pos 0)))) (get_or-map Int right j (pos 0))
      ∙ sym (exact_fits _ decided bits (product_fits left right layout.items small i j some))

  plain_sum : (n : ℕ) → n ≡ layout.items → Ok (sum_of (product_at layout left right place) n) ≡ as_number (judged_items (inner_item layout (map Int left) (map Int right) Times place) Plus n)
  plain_sum zero is = refl
  plain_sum (suc n) is =
      judged_sum (product_at layout left right place) (magnitude left * magnitude right) layout.items
      (λ k below. product_near left right (left_place layout place k) (right_place layout place k)) decided bits small
      (inner_item layout (map Int left) (map Int right) Times place) (λ k below. product_is (omega arith) k) (suc n) (omega arith)

  pub inner_sum : Ok (sum_of (product_at layout left right place) layout.items) ≡ inner_number layout (map Int left) (map Int right) Plus Times place
  inner_sum = plain_sum layout.items refl
