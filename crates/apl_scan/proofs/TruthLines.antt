-- Truth values in lines of neighbours, joined by "and" or "or".
use Rattle.std.proofs.Common.{◌≡◌, ◌⊎◌, ℕ, zero, suc, ℤ, pos, ◌+◌, ◌-◌, ◌*◌, ◌/◌, ◌%◌, ◌<◌, ◌≤◌, Bool, true, false, not, List, map, length, take, drop, Ok, Result, slice_index_or, get_or-drop, get_or-take, inl, inr, ⊎_elim, ap, sym, ◌∙◌, refl, arith, mul-le-mul_right}
use Rattle.std.proofs.lemmas.Bool.{cases_lt}
use Rattle.std.proofs.lemmas.List.{length-map, get_or_default}
use Rattle.std.proofs.Math.ListN.{get_or-map}
use Rattle.std.proofs.Math.Nat.{mod-lt, div-one, div-add-mod'}
use Rattle.apl_array.specs.declared.array.Elem.TheVariants.{Int}
use Rattle.apl_array.specs.declared.function.ScalarFunction.{ScalarFunction}
use Rattle.apl_array.specs.declared.function.ScalarFunction.TheVariants.{Times, Floor, Ceiling, And, Or}
use Rattle.apl_array.specs.Array.{bit, truth_element}
use Rattle.apl_pool.specs.declared.kernel.Fault.{Fault}
use Rattle.apl_pool.specs.Pool.{AreValues}
use Rattle.apl_scalar.specs.Scalar.{dyadic_numbers, is_one, truth_outcome}
use Rattle.apl_answer.specs.Elements.{element_outcome}
use Rattle.apl_scan.specs.Lines.{folded, number_along, numbers_before, scan_at}
use Rattle.apl_scan.specs.TruthLines.{join, IsEndOf, IsEnded, AreEnded, AreTruthScans}

-- what is at a place of a part of a list
pub part_at : (xs : List Bool) (from to k : ℕ) (d : Bool) → k < to - from → slice_index_or (take (to - from) (drop from xs)) k d ≡ slice_index_or xs (from + k) d
part_at xs from to k d inside = get_or-take (to - from) (drop from xs) k d inside ∙ get_or-drop from xs k d

-- a line stays ended where its values stay
pub still_ended : (end : Bool) (truths : List Bool) (first items : ℕ) (old new : List Bool) → IsEnded end truths first items old
    → ((k : ℕ) (d : Bool) → k < first + items → slice_index_or new k d ≡ slice_index_or old k d) → IsEnded end truths first items new
still_ended end truths first items old new ended same = record {
  before = λ k d inside none. same (first + k) d (omega (arith, inside)) ∙ ended.before k d inside none;
  after = λ j k d order inside is. same (first + k) d (omega (arith, inside)) ∙ ended.after j k d order inside is;
}

is_joined : (f : ScalarFunction) (end : Bool) → dyadic_numbers f (pos 1) (pos 1) ≡ Ok (bit (join end true true)) → dyadic_numbers f (pos 1) (pos 0) ≡ Ok (bit (join end true false))
    → dyadic_numbers f (pos 0) (pos 1) ≡ Ok (bit (join end false true)) → dyadic_numbers f (pos 0) (pos 0) ≡ Ok (bit (join end false false)) → IsEndOf f end
is_joined f end both left right none true true = both
is_joined f end both left right none true false = left
is_joined f end both left right none false true = right
is_joined f end both left right none false false = none

-- the functions that are "and" or "or" of truth values
pub end_of_and : IsEndOf And false
end_of_and = is_joined And false refl refl refl refl

pub end_of_times : IsEndOf Times false
end_of_times = is_joined Times false refl refl refl refl

pub end_of_floor : IsEndOf Floor false
end_of_floor = is_joined Floor false refl refl refl refl

pub end_of_or : IsEndOf Or true
end_of_or = is_joined Or true refl refl refl refl

pub end_of_ceiling : IsEndOf Ceiling true
end_of_ceiling = is_joined Ceiling true refl refl refl refl

end_stays : (end y : Bool) → join end end y ≡ end
end_stays true y = refl
end_stays false y = refl

end_comes : (end x : Bool) → join end x end ≡ end
end_comes true true = refl
end_comes true false = refl
end_comes false true = refl
end_comes false false = refl

no_end : (end : Bool) → join end (not end) (not end) ≡ not end
no_end true = refl
no_end false = refl

is_end_or_not : (x end : Bool) → (x ≡ end) ⊎ (x ≡ not end)
is_end_or_not true true = inl refl
is_end_or_not true false = inr refl
is_end_or_not false true = inr refl
is_end_or_not false false = inl refl

module _ (end : Bool) (t : ℕ → Bool) where
  abbrev join_all : ℕ → ℕ → Bool
  join_all j zero = t j
  join_all j (suc more) = join end (t j) (join_all (suc j) more)

  all_other : (j more : ℕ) → ((i : ℕ) → i ≤ more → t (j + i) ≡ not end) → join_all j more ≡ not end
  all_other j zero none = let here : j + 0 ≡ j = omega arith in ap t (sym here) ∙ none 0 (omega arith)
  all_other j (suc more) none =
      let here : j + 0 ≡ j = omega arith in
      let first : t j ≡ not end = ap t (sym here) ∙ none 0 (omega arith) in
      let rest = all_other (suc j) more (λ i inside. let place : suc j + i ≡ j + suc i = omega arith in ap t place ∙ none (suc i) (omega (arith, inside))) in
      ap (λ x. join end x (join_all (suc j) more)) first ∙ ap (join end (not end)) rest ∙ no_end end

  one_is_end : (j more i : ℕ) → i ≤ more → t (j + i) ≡ end → join_all j more ≡ end
  one_is_end j zero i inside is = let here : j ≡ j + i = omega (arith, inside) in ap t here ∙ is
  one_is_end j (suc more) zero inside is =
      let here : j ≡ j + 0 = omega arith in
      ap (λ x. join end x (join_all (suc j) more)) (ap t here ∙ is) ∙ end_stays end (join_all (suc j) more)
  one_is_end j (suc more) (suc i) inside is =
      let place : suc j + i ≡ j + suc i = omega arith in
      ap (join end (t j)) (one_is_end (suc j) more i (omega (arith, inside)) (ap t place ∙ is)) ∙ end_comes end (t j)

  some_or_none : (n : ℕ) → ((i : ℕ) → i < n → t i ≡ not end) ⊎ ((i : ℕ) × (i < n) × (t i ≡ end))
  some_or_none zero = inl (λ i inside. absurd (omega (arith, inside)))
  some_or_none (suc n) =
      ⊎_elim
      (λ none. ⊎_elim
      (λ is. inr (n, omega arith, is))
      (λ other. inl (λ i inside. ⊎_elim (λ below. none i below) (λ from. let here : i ≡ n = omega (arith, inside, from) in ap t here ∙ other) (cases_lt i n)))
      (is_end_or_not (t n) end))
      (λ some. inr (some.0, omega (arith, some.1), some.2))
      (some_or_none n)

  module _ (step : ℤ → ℤ → Result ℤ Fault) (steps : (x y : Bool) → step (bit x) (bit y) ≡ Ok (bit (join end x y))) (number : ℕ → ℤ) (are : (j : ℕ) → number j ≡ bit (t j)) where
    fold_is : (j more : ℕ) → folded step number j more ≡ Ok (bit (join_all j more))
    fold_is j zero = ap Ok (are j)
    fold_is j (suc more) = rw (fold_is (suc j) more, are j) (steps (t j) (join_all (suc j) more))

module _ (f : ScalarFunction) (end : Bool) (ends : IsEndOf f end) (truths : List Bool) (items : ℕ) (values : List Bool)
    (some : 0 < items) (whole : length truths / items * items ≡ length truths) (ended : AreEnded end truths items (length truths / items) values) where
  -- each value is the fold up to its place
  pub scans_are : (place : ℕ) (d : Bool) → place < length truths → scan_at (dyadic_numbers f) (map bit truths) items 1 place ≡ Ok (bit (slice_index_or values place d))
  scans_are place d inside =
      let k = place % items in
      let line = place / items in
      let parts = div-add-mod' place items in
      let before : numbers_before items 1 place ≡ k = ap (λ q. q % items) (div-one place) in
      let start = place - k * 1 in
      let t : ℕ → Bool = λ j. slice_index_or truths (start + j * 1) false in
      let number = number_along (map bit truths) start 1 in
      let are : (j : ℕ) → number j ≡ bit (t j) = λ j. get_or-map bit truths (start + j * 1) false in
      let within : k < items = mod-lt place some in
      let lines : line < length truths / items =
      ⊎_elim (λ below. below) (λ past. let much = mul-le-mul_right items past in absurd (omega (arith, much, inside, whole, parts))) (cases_lt line (length truths / items)) in
      let here = ended line lines in
      let at : line * items + k ≡ place = omega (arith, parts) in
      let read : (j : ℕ) → t j ≡ slice_index_or truths (line * items + j) false = λ j. ap (λ p. slice_index_or truths p false) (omega (arith, parts)) in
      let flat : (i : ℕ) → 0 + i ≡ i = λ i. omega arith in
      let value : join_all end t 0 k ≡ slice_index_or values (line * items + k) d =
      ⊎_elim
      (λ none. all_other end t 0 k (λ i order. ap t (flat i) ∙ none i (omega (arith, order))) ∙ sym (here.before k d within (λ j order. sym (read j) ∙ none j (omega (arith, order)))))
      (λ one. one_is_end end t 0 k one.0 (omega (arith, one.1)) (ap t (flat one.0) ∙ one.2) ∙ sym (here.after one.0 k d (omega (arith, one.1)) within (sym (read one.0) ∙ one.2)))
      (some_or_none end t (k + 1)) in
      ap (λ n. folded (dyadic_numbers f) (number_along (map bit truths) (place - n * 1) 1) 0 n) before
      ∙ fold_is end t (dyadic_numbers f) ends number are 0 k
      ∙ ap (λ b. Ok (bit b)) (value ∙ ap (λ p. slice_index_or values p d) at)

  -- so these are the folds
  pub joined_are : length values ≡ length truths → AreTruthScans f truths items (map bit values)
  joined_are long = record {
    len = length-map values bit ∙ long;
    each = λ place d inside.
        scans_are place false inside
        ∙ ap (λ (z : ℤ). Ok z) (sym (get_or-map bit values place false) ∙ get_or_default (map bit values) place (pos 0) d (omega (arith, inside, long, length-map values bit)));
  }

is_bit_one : (b : Bool) → is_one (bit b) ≡ b
is_bit_one true = refl
is_bit_one false = refl

module _ (at_place : ℕ → Result ℤ Fault) (count : ℕ) (values : List Bool) (are : AreValues at_place count (map bit values)) where
  is_bit_at : (place : ℕ) (d : Bool) → place < count → at_place place ≡ Ok (bit (slice_index_or values place d))
  is_bit_at place d inside = are.each place (bit d) inside ∙ ap (λ (z : ℤ). Ok z) (get_or-map bit values place d)

  -- numbers that are truth values are the outcomes as truth values
  pub truths_are : AreValues (λ place. truth_outcome (at_place place)) count values
  truths_are = record {
    len = sym (length-map values bit) ∙ are.len;
    each = λ place d inside. ap truth_outcome (is_bit_at place d inside) ∙ ap (λ (b : Bool). Ok b) (is_bit_one (slice_index_or values place d));
  }

  -- which as elements are those of the numbers
  pub same_elements : (place : ℕ) → place < count → element_outcome truth_element (truth_outcome (at_place place)) ≡ element_outcome Int (at_place place)
  same_elements place inside =
      rw (is_bit_at place false inside) (ap (λ b. Ok (Int (bit b))) (is_bit_one (slice_index_or values place false)))
