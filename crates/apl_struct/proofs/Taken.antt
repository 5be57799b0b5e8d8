-- The places of elements that are taken.
use Rattle.std.proofs.Common.{◌≡◌, ℕ, ℤ, pos, zero, suc, ◌+◌, ◌-◌, ◌*◌, ◌/◌, ◌%◌, ◌<◌, ◌≤◌, ◌^◌, List, [], ◌∷◌, length, get_or, map, drop, slice_index, refl, ap, arith, subst, sub-one}
use Rattle.std.specs.Prelude.{nat_abs, negsuc, neg_ℤ, replicate, Option, Some, None, option_map, option_and_then}
use Rattle.std.proofs.lemmas.Bool.Decides.{nat_tests}
use Rattle.std.proofs.lemmas.List.{length-map, length-replicate, drop-map}
use Rattle.std.proofs.lemmas.List.Elements.{All-replicate}
use Rattle.std.proofs.Math.ListN.{get_or-map}
use Rattle.std.proofs.Math.Nat.{mod-lt}
use Rattle.std.proofs.Math.Seq.{drop-cons}
use Rattle.apl_array.specs.Axes.{place_number}
use Rattle.apl_array.specs.Array.{ArrayValue, IsArray}
use Rattle.apl_array.specs.Shape.{most_axes, IsShape, IsIndexOf, count_of, place_of, index_at}
use Rattle.apl_walk.specs.declared.window.Window.{Window}
use Rattle.apl_walk.specs.Gathered.{filled_at}
use Rattle.apl_struct.specs.Gathering.{element_or_fill}
use Rattle.apl_struct.specs.Shaped.{with_shape, left_number, left_numbers}
use Rattle.apl_struct.specs.Taking.{taken_index, take_source, dropped_shape, drop_source}
use Rattle.apl_walk.specs.Steps.{and_step}
use Rattle.apl_walk.specs.Maps.{step_of}
use Rattle.apl_struct.proofs.Elements.{filled_within}

-- ---- lengths

pub pos_left : (n c : ℕ) → 0 < n * c → 0 < n
pos_left zero c some = absurd (omega (arith, some))
pos_left (suc n) c some = omega arith

pub pos_right : (n c : ℕ) → 0 < n * c → 0 < c
pos_right n zero some = absurd (omega (arith, some))
pos_right n (suc c) some = omega arith

-- both factors of a product that is some and at most so much
pub record AreFactors (n c most : ℕ) : Type 0 where
  pub some : 0 < n
  pub less : n ≤ most
  pub rest_some : 0 < c
  pub rest_less : c ≤ most
  pub both : n * c ≤ most

pub are_factors : (n c most : ℕ) → 0 < n * c → n * c ≤ most → AreFactors n c most
are_factors zero c most some less = absurd (omega (arith, some))
are_factors (suc n) zero most some less = absurd (omega (arith, some))
are_factors (suc n) (suc c) most some less =
    record { some = omega arith; less = omega (arith, less); rest_some = omega arith; rest_less = omega (arith, less); both = less }

pub count_drop : (shape : List ℕ) (k most : ℕ) → 0 < count_of shape → count_of shape ≤ most → (0 < count_of (drop k shape)) × (count_of (drop k shape) ≤ most)
count_drop shape zero most some less = (some, less)
count_drop [] (suc k) most some less = (some, less)
count_drop (n ∷ ns) (suc k) most some less =
    let both = are_factors n (count_of ns) most some less in
    count_drop ns k most both.rest_some both.rest_less

-- the elements from the axis before axis k on
pub from_axis : {T : Type 0} (xs : List T) (k : ℕ) (d : T) → 0 < k → k ≤ length xs → drop (k - 1) xs ≡ get_or xs (k - 1) d ∷ drop k xs
from_axis xs zero d some inside = absurd (omega arith)
from_axis xs (suc k) d some inside = rw sub-one (drop-cons xs k d (omega arith))

pub axis_before : (shape : List ℕ) (k most : ℕ) → 0 < k → k ≤ length shape → 0 < count_of shape → count_of shape ≤ most
    → AreFactors (slice_index shape (k - 1)) (count_of (drop k shape)) most
axis_before shape k most later inside some less =
    let here : count_of (drop (k - 1) shape) ≡ slice_index shape (k - 1) * count_of (drop k shape) = ap count_of (from_axis shape k 0 later inside) in
    let rest = count_drop shape (k - 1) most some less in
    are_factors (slice_index shape (k - 1)) (count_of (drop k shape)) most (omega (arith, here, rest.0)) (omega (arith, here, rest.1))

pub magnitude_before : (numbers : List ℤ) (k most : ℕ) → 0 < k → k ≤ length numbers → 0 < count_of (map nat_abs numbers) → count_of (map nat_abs numbers) ≤ most
    → AreFactors (nat_abs (get_or numbers (k - 1) (pos 0))) (count_of (map nat_abs (drop k numbers))) most
magnitude_before numbers k most later inside some less =
    let m = nat_abs (get_or numbers (k - 1) (pos 0)) in
    let before = axis_before (map nat_abs numbers) k most later (omega (arith, inside, length-map numbers nat_abs)) some less in
    subst (λ l. AreFactors m (count_of l) most) (drop-map nat_abs k numbers)
    (subst (λ n. AreFactors n (count_of (drop k (map nat_abs numbers))) most) (get_or-map nat_abs numbers (k - 1) (pos 0)) before)

-- ---- one more axis

both_steps : (n : ℕ) (ns : List ℕ) (first : Option ℕ) (rest : Option (List ℕ))
    → and_step (option_map (place_of ns) rest) (option_map (λ j. j * count_of ns) first)
    ≡ option_map (place_of (n ∷ ns)) (option_and_then (λ j. option_map (λ r. j ∷ r) rest) first)
both_steps n ns (Some j) (Some r) = ap Some (omega arith)
both_steps n ns (Some j) None = refl
both_steps n ns None (Some r) = refl
both_steps n ns None None = refl

pub taken_step : (m : ℤ) (ms : List ℤ) (n : ℕ) (ns : List ℕ) (w : Window) (rest : Option ℕ) (e place : ℕ)
    → w.extent ≡ nat_abs m → e ≡ count_of (map nat_abs ms)
    → ((i : ℕ) → i < nat_abs m → step_of w i ≡ option_map (λ j. j * count_of ns) (taken_index m n i))
    → rest ≡ option_map (place_of ns) (take_source ms ns (index_at (map nat_abs ms) place))
    → and_step rest (step_of w (place / e % w.extent))
    ≡ option_map (place_of (n ∷ ns)) (take_source (m ∷ ms) (n ∷ ns) (index_at (map nat_abs (m ∷ ms)) place))
taken_step m ms n ns w rest e place extent count steps is =
    let i = place / count_of (map nat_abs ms) % nat_abs m in
    let inside : i < nat_abs m = mod-lt (place / count_of (map nat_abs ms)) (omega (arith, w.extent_some, extent)) in
    rw (is, count, extent, steps i inside) (both_steps n ns (taken_index m n i) (take_source ms ns (index_at (map nat_abs ms) place)))

-- ---- the elements

pub IsIndexOf-cons : (n i : ℕ) (ns is : List ℕ) → i < n → IsIndexOf ns is → IsIndexOf (n ∷ ns) (i ∷ is)
IsIndexOf-cons n i ns is here rest = record { len = omega (arith, rest.len); below = by_axis }
  where
    by_axis : (k : ℕ) → k < length (n ∷ ns) → slice_index (i ∷ is) k < slice_index (n ∷ ns) k
    by_axis zero inside = here
    by_axis (suc k) inside = rest.below k (omega arith)

IsIndexOf-tail : (n i : ℕ) (ns is : List ℕ) → IsIndexOf (n ∷ ns) (i ∷ is) → IsIndexOf ns is
IsIndexOf-tail n i ns is all = record { len = omega (arith, all.len); below = λ k inside. all.below (suc k) (omega arith) }

taken_below : (m : ℤ) (n i j : ℕ) → i < nat_abs m → taken_index m n i ≡ Some j → j < n
taken_below (pos m) n i j inside is = grind (arith, nat_tests)
taken_below (negsuc m) n i j inside is = grind (arith, nat_tests)

lawful_step : (n : ℕ) (ns taken : List ℕ) (first : Option ℕ) (rest : Option (List ℕ))
    → ((j : ℕ) → first ≡ Some j → j < n) → ((r : List ℕ) → rest ≡ Some r → IsIndexOf ns r)
    → option_and_then (λ j. option_map (λ r. j ∷ r) rest) first ≡ Some taken → IsIndexOf (n ∷ ns) taken
lawful_step n ns taken (Some j) (Some r) own others is =
    let same : j ∷ r ≡ taken = cc in
    subst (λ (l : List ℕ). IsIndexOf (n ∷ ns) l) same (IsIndexOf-cons n j ns r (own j refl) (others r refl))
lawful_step n ns taken (Some j) None own others is = absurd cc
lawful_step n ns taken None rest own others is = absurd cc

taken_lawful : (numbers : List ℤ) (argument index taken : List ℕ) → length numbers ≡ length argument → IsIndexOf (map nat_abs numbers) index
    → take_source numbers argument index ≡ Some taken → IsIndexOf argument taken
taken_lawful [] [] index taken len lawful is =
    let same : [] ≡ taken = cc in
    subst (λ (l : List ℕ). IsIndexOf [] l) same record { len = refl; below = λ k inside. absurd (omega arith) }
taken_lawful [] (n ∷ ns) index taken len lawful is = absurd (omega (arith, len))
taken_lawful (m ∷ ms) [] index taken len lawful is = absurd (omega (arith, len))
taken_lawful (m ∷ ms) (n ∷ ns) [] taken len lawful is = absurd (omega (arith, lawful.len))
taken_lawful (m ∷ ms) (n ∷ ns) (i ∷ js) taken len lawful is =
    lawful_step n ns taken (taken_index m n i) (take_source ms ns js)
    (λ j e. taken_below m n i j (lawful.below 0 (omega arith)) e)
    (λ r e. taken_lawful ms ns js r (omega (arith, len)) (IsIndexOf-tail (nat_abs m) i (map nat_abs ms) js lawful) e)
    is

module _ (below : (shape index : List ℕ) → IsIndexOf shape index → place_of shape index < count_of shape)
    (argument : List ℕ) (numbers : List ℤ) (index : List ℕ) (len : length numbers ≡ length argument) (lawful : IsIndexOf (map nat_abs numbers) index) where
  pub taken_none_of_empty : count_of argument ≡ 0 → take_source numbers argument index ≡ None
  taken_none_of_empty none = by_case (take_source numbers argument index) refl
    where
      by_case : (o : Option (List ℕ)) → take_source numbers argument index ≡ o → o ≡ None
      by_case None e = refl
      by_case (Some taken) e = absurd (omega (arith, none, below argument taken (taken_lawful numbers argument index taken len lawful e)))

  pub taken_element : (b : ArrayValue) → IsArray b → IsShape argument → count_of argument ≡ count_of b.shape
      → filled_at b (option_map (place_of argument) (take_source numbers argument index)) ≡ element_or_fill (with_shape argument b) (take_source numbers argument index)
  taken_element b array shape counts = by_case (take_source numbers argument index) refl
    where
      by_case : (o : Option (List ℕ)) → take_source numbers argument index ≡ o → filled_at b (option_map (place_of argument) o) ≡ element_or_fill (with_shape argument b) o
      by_case None e = refl
      by_case (Some taken) e =
          filled_within below (with_shape argument b) taken
          record { shape = shape; len = omega (arith, array.len, counts); kinds = array.kinds }
          (taken_lawful numbers argument index taken len lawful e)

-- ---- what is left as what is taken

magnitude_of_minus : (n : ℕ) → nat_abs (neg_ℤ (pos n)) ≡ n
magnitude_of_minus zero = refl
magnitude_of_minus (suc n) = refl

pub left_shape : (numbers : List ℤ) (lengths : List ℕ) → map nat_abs (left_numbers numbers lengths) ≡ dropped_shape numbers lengths
left_shape [] lengths = refl
left_shape (m ∷ ms) [] = refl
left_shape (pos m ∷ ms) (n ∷ ns) = rw (left_shape ms ns, magnitude_of_minus (n - m)) refl
left_shape (negsuc m ∷ ms) (n ∷ ns) = rw (left_shape ms ns) refl

pub left_length : (numbers : List ℤ) (lengths : List ℕ) → length numbers ≡ length lengths → length (left_numbers numbers lengths) ≡ length lengths
left_length [] [] len = refl
left_length [] (n ∷ ns) len = absurd (omega (arith, len))
left_length (m ∷ ms) [] len = refl
left_length (m ∷ ms) (n ∷ ns) len = omega (arith, left_length ms ns (omega (arith, len)))

-- what is left of an axis starts after what is dropped
left_index : (m : ℤ) (n i : ℕ) → i < n - nat_abs m → taken_index (left_number m n) n i ≡ Some (i + place_number m)
left_index (pos m) n i inside = by_left (n - m) refl
  where
    by_left : (left : ℕ) → n - m ≡ left → taken_index (neg_ℤ (pos left)) n i ≡ Some (i + m)
    by_left zero is = absurd (omega (arith, is, inside))
    by_left (suc left) is = grind (arith, nat_tests)
left_index (negsuc m) n i inside = grind (arith, nat_tests)

pub left_source : (numbers : List ℤ) (lengths index : List ℕ) → length numbers ≡ length lengths → IsIndexOf (dropped_shape numbers lengths) index
    → take_source (left_numbers numbers lengths) lengths index ≡ Some (drop_source numbers index)
left_source [] [] index len lawful = refl
left_source [] (n ∷ ns) index len lawful = absurd (omega (arith, len))
left_source (m ∷ ms) [] index len lawful = absurd (omega (arith, len))
left_source (m ∷ ms) (n ∷ ns) [] len lawful = absurd (omega (arith, lawful.len))
left_source (m ∷ ms) (n ∷ ns) (i ∷ is) len lawful =
    let first = left_index m n i (lawful.below 0 (omega arith)) in
    let rest = left_source ms ns is (omega (arith, len)) (IsIndexOf-tail (n - nat_abs m) i (dropped_shape ms ns) is lawful) in
    rw (first, rest) refl

-- ---- axes of length 1

pub count_ones : (n : ℕ) → count_of (replicate n 1) ≡ 1
count_ones zero = refl
count_ones (suc n) = omega (arith, count_ones n)

pub IsShape-ones : (n : ℕ) → n ≤ most_axes → IsShape (replicate n 1)
IsShape-ones n few =
    record { rank = omega (arith, few, length-replicate {A = ℕ} n 1); axes = All-replicate (λ m. m ≤ 2 ^ 30) n 1 (omega arith); count = omega (arith, count_ones n) }
