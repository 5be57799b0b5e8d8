-- Sums of products of numbers near 0 that meet, and the fold by `+` that they are.
use Rattle.std.proofs.Common.{◌≡◌, ◌↔◌, ℕ, ℤ, pos, ◌+◌, ◌*◌, ◌^◌, ◌<◌, ◌≤◌, ◌+ℤ◌, ◌*ℤ◌, FitsSigned, w64, true, ◌-◌, ◌/◌, List, length, take, drop, map, slice_index_or, Ok, sym, ap, subst, ◌∙◌, arith, rules}
use Rattle.std.specs.Prelude.{unsigned_abs}
use Rattle.std.proofs.Math.ListN.{get_or-map}
use Rattle.std.proofs.Math.Nat.{le_refl, mul-le-mul}
use Rattle.std.proofs.lemmas.Int.{unsigned_abs-mul, fits_signed_from_abs}
use Rattle.std.proofs.lemmas.List.{places}
use Rattle.apl_array.specs.declared.array.Elem.TheVariants.{Int}
use Rattle.apl_array.specs.declared.function.ScalarFunction.TheVariants.{Plus, Times}
use Rattle.apl_array.specs.Range.{IsInRange, in_range}
use Rattle.apl_scalar.specs.Meeting.{meeting_number}
use Rattle.apl_scalar.specs.Scalar.{dyadic_of}
use Rattle.apl_reduce.specs.declared.product_sums.Bounds.{Bounds}
use Rattle.apl_reduce.specs.declared.product_sums.ProductSum.{ProductSum}
use Rattle.apl_reduce.specs.Items.{as_number, judged_items, item_in}
use Rattle.apl_reduce.specs.Magnitudes.{IsSumNear, meeting_product, IsProductSum}
use Rattle.apl_reduce.proofs.Adding.{exact_fits, judged_sum}
use Rattle.apl_reduce.proofs.Distances.{sum_near}
use Rattle.apl_reduce.proofs.NearSums.{sum_is_near}

pub near_product : (most other : ℕ) (x y : ℤ) → unsigned_abs x ≤ most → unsigned_abs y ≤ other → unsigned_abs (x *ℤ y) ≤ most * other
near_product most other x y left right = rw unsigned_abs-mul (mul-le-mul left right)

-- a sum and one product more stay in the range
pub next_fits : (number : ℕ → ℤ) (most count : ℕ) (sum : ℤ) → IsSumNear number most count sum → unsigned_abs (number count) ≤ most → most * (count + 1) < 2 ^ 63 → unsigned_abs (sum +ℤ number count) < 2 ^ 63
next_fits number most count sum before near small =
    omega (arith, sum_near sum (number count), sum_is_near number most count sum before, near, small)

-- two sums stay in the range
pub both_fit : (number later : ℕ → ℤ) (most m n : ℕ) (low high : ℤ) → IsSumNear number most m low → IsSumNear later most n high → most * (m + n) < 2 ^ 63 → unsigned_abs (low +ℤ high) < 2 ^ 63
both_fit number later most m n low high before after small =
    omega (arith, sum_near low high, sum_is_near number most m low before, sum_is_near later most n high after, small)

-- the sum of both halves of `n` products, or of all but the last
pub halves_sum : (left right : List ℤ) (near : Bounds) (n k : ℕ) (low high both : ProductSum) → n / 2 ≤ k → k ≤ n / 2 → IsProductSum left right near 0 k low → IsProductSum left right near (n / 2) k high
    → (IsProductSum left right near 0 (n / 2) low → IsProductSum left right near (0 + n / 2) (n / 2) high → IsProductSum left right near 0 (n / 2 + n / 2) both)
    → IsProductSum left right near 0 (n / 2 + n / 2) both
halves_sum left right near n k low high both above below low_is high_is joined =
    let done : k ≡ n / 2 = omega (arith, above, below) in
    let next : n / 2 ≡ 0 + n / 2 = omega arith in
    joined (subst (λ m. IsProductSum left right near 0 m low) done low_is)
    (subst (λ m. IsProductSum left right near m (n / 2) high) next (subst (λ m. IsProductSum left right near (n / 2) m high) done high_is))

-- ---- a line of neighbours

module _ (numbers : List ℤ) (start count : ℕ) (within : start + count ≤ length numbers) where
  abbrev pub line : List ℤ
  line = take (start + count - start) (drop start numbers)

  pub line_length : length line ≡ count
  line_length = search (rules, places)

  pub line_at : (k : ℕ) → k < count → slice_index_or line k (pos 0) ≡ slice_index_or numbers (start + k) (pos 0)
  line_at k below = search (rules, places)

-- the last item of a line is the last of these
pub line_within : (start stride count len : ℕ) → stride ≡ 1 → 0 < count → start + (count - 1) * stride < len → start + count ≤ len
line_within start stride count len next some last =
    let same : start + (count - 1) * stride ≡ start + (count - 1) * 1 = ap (λ n. start + (count - 1) * n) next in
    omega (arith, same, last, some)

-- ---- its fold

module _ (decided : (z : ℤ) → (in_range z ≡ true) ↔ IsInRange z) (bits : (z : ℤ) → IsInRange z ↔ FitsSigned w64 z) (left right : List ℤ) (start stride other gap count most : ℕ)
    (left_line right_line : List ℤ) (left_next : stride ≡ 1) (right_next : gap ≡ 1)
    (left_is : (k : ℕ) → k < count → slice_index_or left_line k (pos 0) ≡ slice_index_or left (start + k) (pos 0))
    (right_is : (k : ℕ) → k < count → slice_index_or right_line k (pos 0) ≡ slice_index_or right (other + k) (pos 0))
    (small : most * count < 2 ^ 63) (sum : ℤ) (is : IsSumNear (meeting_product left_line right_line 0) most count sum) where
  abbrev number : ℕ → ℤ
  number = meeting_product left_line right_line 0

  item_is : (k : ℕ) → k < count → meeting_number Times (map Int left) start stride (map Int right) other gap k ≡ Ok (number k)
  item_is k below =
      let i : start + k * stride ≡ start + k = ap (λ n. start + k * n) left_next ∙ omega arith in
      let j : other + k * gap ≡ other + k = ap (λ n. other + k * n) right_next ∙ omega arith in
      let here : 0 + k ≡ k = omega arith in
      let x = slice_index_or left (start + k) (pos 0) in
      let y = slice_index_or right (other + k) (pos 0) in
      let same : number k ≡ x *ℤ y = ap (λ n. slice_index_or left_line n (pos 0) *ℤ slice_index_or right_line n (pos 0)) here ∙ ap (λ z. z *ℤ slice_index_or right_line k (pos 0)) (left_is k below) ∙ ap (λ z. x *ℤ z) (right_is k below) in
      let some : 1 ≤ count = omega (arith, below) in
      let one : most * 1 ≤ most * count = mul-le-mul (le_refl most) some in
      let fits : unsigned_abs (x *ℤ y) < 2 ^ 63 = omega (arith, one, small, subst (λ z. unsigned_abs z ≤ most) same (is.near k below)) in
      ap (λ n. dyadic_of Times (item_in (map Int left) n) (item_in (map Int right) (other + k * gap))) i
      ∙ ap (λ n. dyadic_of Times (item_in (map Int left) (start + k)) (item_in (map Int right) n)) j
      ∙ ap (λ e. dyadic_of Times e (item_in (map Int right) (other + k))) (get_or-map Int left (start + k) (pos 0))
      ∙ ap (dyadic_of Times (Int x)) (get_or-map Int right (other + k) (pos 0))
      ∙ sym (exact_fits (x *ℤ y) decided bits (fits_signed_from_abs w64 (x *ℤ y) fits))
      ∙ ap Ok (sym same)

  pub line_sum : as_number (judged_items (meeting_number Times (map Int left) start stride (map Int right) other gap) Plus count) ≡ Ok sum
  line_sum =
      sym (judged_sum number most count is.near decided bits small (meeting_number Times (map Int left) start stride (map Int right) other gap) item_is count (omega arith))
      ∙ ap Ok (sym is.is)
