-- Folds of truth values by how many of them are true.
use Rattle.std.proofs.Common.{◌≡◌, ◌↔◌, ◌⊎◌, inl, inr, ℕ, zero, suc, ℤ, pos, ◌+◌, ◌%◌, ◌^◌, ◌<◌, ◌≤◌, ◌+ℤ◌, ◌-ℤ◌, Bool, true, false, not, List, map, Result, Ok, FitsSigned, of_z, w64, refl, sym, ap, ◌∙◌, ⊎_elim, slice_index_or, arith}
use Rattle.std.specs.Prelude.{◌&&◌, ◌||◌, negsuc, nat_eq, unsigned_abs}
use Rattle.std.proofs.Math.Bool.{and-false, or-true}
use Rattle.std.proofs.Math.ListN.{get_or-map}
use Rattle.std.proofs.lemmas.Bool.{cases_Bool}
use Rattle.std.proofs.lemmas.Int.{ints}
use Rattle.apl_array.specs.declared.array.Elem.{Elem}
use Rattle.apl_array.specs.declared.array.Elem.TheVariants.{Int}
use Rattle.apl_array.specs.declared.function.ScalarFunction.{ScalarFunction}
use Rattle.apl_array.specs.declared.function.ScalarFunction.TheVariants.{Plus}
use Rattle.apl_array.specs.Array.{bit, truth_element}
use Rattle.apl_array.specs.Range.{IsInRange, in_range}
use Rattle.apl_pool.specs.declared.kernel.Fault.{Fault}
use Rattle.apl_scalar.specs.Scalar.{dyadic_of}
use Rattle.apl_reduce.specs.Folded.{number_step, folded_onto}
use Rattle.apl_reduce.specs.Items.{item_in}
use Rattle.apl_walk.specs.Ones.{one_of}
use Rattle.apl_reduce.specs.Ones.{ones}
use Rattle.apl_reduce.specs.TruthFolds.{IsConjunction, IsDisjunction, turned, TurnsAt, turns_among}
use Rattle.apl_reduce.proofs.BitFolds.{is_low}
use Rattle.apl_reduce.proofs.Folds.{two_runs}
use Rattle.apl_reduce.proofs.NearFolds.{near_exact}
use Rattle.apl_reduce.proofs.TrueCounts.{ones_none, ones_suc, ones_most}

-- ---- folds, one truth value more on the right

module _ (truths : List Bool) (first : ℕ) where
  abbrev item : ℕ → Elem
  item = item_in (map truth_element truths)

  abbrev truth : ℕ → Bool
  truth n = slice_index_or truths (first + n) false

  is_truth : (n : ℕ) → item (first + n) ≡ truth_element (truth n)
  is_truth n = get_or-map truth_element truths (first + n) false

  more : (f : ScalarFunction) (n : ℕ) (z next : ℤ) → dyadic_of f (truth_element (truth n)) (Int z) ≡ Ok next
      → folded_onto f item first (suc n) (Ok z) ≡ folded_onto f item first n (Ok next)
  more f n z next step =
      let last : suc n ≡ n + suc zero = omega arith in
      ap (λ m. folded_onto f item first m (Ok z)) last ∙ two_runs f item first n (suc zero) (Ok z)
      ∙ ap (folded_onto f item first n) (ap (λ x. number_step f x (Ok z)) (is_truth n) ∙ step)

  -- ---- functions that ask for all

  module _ (f : ScalarFunction) (asks : IsConjunction f) where
    all_step : (n : ℕ) (t b : Bool) → truth n ≡ t → folded_onto f item first (suc n) (Ok (bit b)) ≡ folded_onto f item first n (Ok (bit (t && b)))
    all_step n t b is = more f n (bit b) (bit (t && b)) (ap (λ x. dyadic_of f (truth_element x) (truth_element b)) is ∙ asks t b)

    zero_stays : (n : ℕ) → folded_onto f item first n (Ok (bit false)) ≡ Ok (bit false)
    zero_stays zero = refl
    zero_stays (suc n) = all_step n (truth n) false refl ∙ ap (λ b. folded_onto f item first n (Ok (bit b))) (and-false (truth n)) ∙ zero_stays n

    -- ones leave the total
    all_ones : (n : ℕ) (b : Bool) → ones truths first n ≡ n → folded_onto f item first n (Ok (bit b)) ≡ Ok (bit b)
    all_ones zero b all = refl
    all_ones (suc n) b all =
        let last = ones_suc truths first n in
        let most = ones_most truths first n in
        ⊎_elim
        (λ one. all_step n true b one ∙ all_ones n b (omega (arith, all, last, ap one_of one)))
        (λ none. absurd (omega (arith, all, last, most, ap one_of none)))
        (cases_Bool (truth n))

    -- a zero makes it 0
    not_all : (n : ℕ) (b : Bool) → ones truths first n < n → folded_onto f item first n (Ok (bit b)) ≡ Ok (bit false)
    not_all zero b few = absurd (omega (arith, few))
    not_all (suc n) b few =
        let last = ones_suc truths first n in
        ⊎_elim
        (λ one. all_step n true b one ∙ not_all n b (omega (arith, few, last, ap one_of one)))
        (λ none. all_step n false b none ∙ zero_stays n)
        (cases_Bool (truth n))

  -- ---- functions that ask for one

  module _ (f : ScalarFunction) (asks : IsDisjunction f) where
    any_step : (n : ℕ) (t b : Bool) → truth n ≡ t → folded_onto f item first (suc n) (Ok (bit b)) ≡ folded_onto f item first n (Ok (bit (t || b)))
    any_step n t b is = more f n (bit b) (bit (t || b)) (ap (λ x. dyadic_of f (truth_element x) (truth_element b)) is ∙ asks t b)

    one_stays : (n : ℕ) → folded_onto f item first n (Ok (bit true)) ≡ Ok (bit true)
    one_stays zero = refl
    one_stays (suc n) = any_step n (truth n) true refl ∙ ap (λ b. folded_onto f item first n (Ok (bit b))) (or-true (truth n)) ∙ one_stays n

    -- zeros leave the total
    no_ones : (n : ℕ) (b : Bool) → ones truths first n ≡ 0 → folded_onto f item first n (Ok (bit b)) ≡ Ok (bit b)
    no_ones zero b none = refl
    no_ones (suc n) b none =
        let last = ones_suc truths first n in
        ⊎_elim
        (λ one. absurd (omega (arith, none, last, ap one_of one)))
        (λ no. any_step n false b no ∙ no_ones n b (omega (arith, none, last)))
        (cases_Bool (truth n))

    -- a one makes it 1
    some_ones : (n : ℕ) (b : Bool) → 0 < ones truths first n → folded_onto f item first n (Ok (bit b)) ≡ Ok (bit true)
    some_ones zero b some = absurd (omega (arith, some, ones_none truths first))
    some_ones (suc n) b some =
        let last = ones_suc truths first n in
        ⊎_elim
        (λ one. any_step n true b one ∙ one_stays n)
        (λ no. any_step n false b no ∙ some_ones n b (omega (arith, some, last, ap one_of no)))
        (cases_Bool (truth n))

  -- ---- functions that turn their right argument over

  -- how many of the first n truth values turn it
  abbrev turns : (turn : Bool) → ℕ → ℕ
  turns turn n = turns_among truths first turn n

  module _ (turn : Bool) (f : ScalarFunction) (asks : TurnsAt turn f) where
    turn_step : (n : ℕ) (t b : Bool) → truth n ≡ t → folded_onto f item first (suc n) (Ok (bit b)) ≡ folded_onto f item first n (Ok (bit (turned turn t b)))
    turn_step n t b is = more f n (bit b) (bit (turned turn t b)) (ap (λ x. dyadic_of f (truth_element x) (truth_element b)) is ∙ asks t b)

  turns_none : (turn : Bool) → turns turn 0 ≡ 0
  turns_none true = ones_none truths first
  turns_none false = omega arith

  -- one more that turns, or one that does not
  turns_suc : (turn : Bool) (n : ℕ) → truth n ≡ turn → turns turn (suc n) ≡ suc (turns turn n)
  turns_suc true n is = omega (arith, ones_suc truths first n, ap one_of is)
  turns_suc false n is = omega (arith, ones_suc truths first n, ones_most truths first n, ap one_of is)

  turns_same : (turn : Bool) (n : ℕ) → truth n ≡ not turn → turns turn (suc n) ≡ turns turn n
  turns_same true n is = omega (arith, ones_suc truths first n, ap one_of is)
  turns_same false n is = omega (arith, ones_suc truths first n, ones_most truths first n, ap one_of is)

  is_turn_or_not : (t turn : Bool) → (t ≡ turn) ⊎ (t ≡ not turn)
  is_turn_or_not true true = inl refl
  is_turn_or_not true false = inr refl
  is_turn_or_not false true = inr refl
  is_turn_or_not false false = inl refl

  turned_at : (turn b : Bool) → turned turn turn b ≡ not b
  turned_at true b = refl
  turned_at false b = refl

  left_at : (turn b : Bool) → turned turn (not turn) b ≡ b
  left_at true b = refl
  left_at false b = refl

  not_not : (b : Bool) → not (not b) ≡ b
  not_not true = refl
  not_not false = refl

  -- an even number of turns leaves the total, and an odd one turns it over
  module _ (turn : Bool) (f : ScalarFunction) (asks : TurnsAt turn f) where
    by_turns : (n : ℕ) (b : Bool) → (turns turn n % 2 ≡ 0 → folded_onto f item first n (Ok (bit b)) ≡ Ok (bit b)) × (turns turn n % 2 ≡ 1 → folded_onto f item first n (Ok (bit b)) ≡ Ok (bit (not b)))
    by_turns zero b = (λ even. refl, λ odd. absurd (omega (arith, odd, turns_none turn)))
    by_turns (suc n) b =
        ⊎_elim
        (λ here.
        let count = turns_suc turn n here in
        let step = turn_step turn f asks n turn b here ∙ ap (λ x. folded_onto f item first n (Ok (bit x))) (turned_at turn b) in
        let rest = by_turns n (not b) in
        (λ even. step ∙ rest.1 (omega (arith, even, count)) ∙ ap (λ x. Ok (bit x)) (not_not b), λ odd. step ∙ rest.0 (omega (arith, odd, count))))
        (λ other.
        let count = turns_same turn n other in
        let step = turn_step turn f asks n (not turn) b other ∙ ap (λ x. folded_onto f item first n (Ok (bit x))) (left_at turn b) in
        let rest = by_turns n b in
        (λ even. step ∙ rest.0 (omega (arith, even, count)), λ odd. step ∙ rest.1 (omega (arith, odd, count))))
        (is_turn_or_not (truth n) turn)

  -- ---- sums

  module _ (decided : (z : ℤ) → (in_range z ≡ true) ↔ IsInRange z) (bits : (z : ℤ) → IsInRange z ↔ FitsSigned w64 z) where
    next_sum : (n : ℕ) (z : ℤ) (t : Bool) → truth n ≡ t → unsigned_abs z + suc n < 2 ^ 63 → folded_onto Plus item first (suc n) (Ok z) ≡ folded_onto Plus item first n (Ok (bit t +ℤ z))
    next_sum n z true is small =
        more Plus n z (pos 1 +ℤ z) (ap (λ x. dyadic_of Plus (truth_element x) (Int z)) is ∙ near_exact decided bits (pos 1 +ℤ z) (omega (arith, ints, small)))
    next_sum n z false is small =
        more Plus n z (pos 0 +ℤ z) (ap (λ x. dyadic_of Plus (truth_element x) (Int z)) is ∙ near_exact decided bits (pos 0 +ℤ z) (omega (arith, ints, small)))

    pub sums : (n : ℕ) (z : ℤ) → unsigned_abs z + n < 2 ^ 63 → folded_onto Plus item first n (Ok z) ≡ Ok (z +ℤ pos (ones truths first n))
    sums zero z small = let same : z ≡ z +ℤ pos (ones truths first zero) = omega (arith, ints, ones_none truths first) in ap (λ x. Ok x) same
    sums (suc n) z small =
        let last = ones_suc truths first n in
        ⊎_elim
        (λ one.
        let all : (pos 1 +ℤ z) +ℤ pos (ones truths first n) ≡ z +ℤ pos (ones truths first (suc n)) = omega (arith, ints, last, ap one_of one) in
        next_sum n z true one small ∙ sums n (pos 1 +ℤ z) (omega (arith, ints, small)) ∙ ap (λ x. Ok x) all)
        (λ no.
        let all : (pos 0 +ℤ z) +ℤ pos (ones truths first n) ≡ z +ℤ pos (ones truths first (suc n)) = omega (arith, ints, last, ap one_of no) in
        next_sum n z false no small ∙ sums n (pos 0 +ℤ z) (omega (arith, ints, small)) ∙ ap (λ x. Ok x) all)
        (cases_Bool (truth n))

-- ---- folds onto a number

-- a number whose bits are few
pub is_small : (z : ℤ) → FitsSigned w64 z → of_z w64 z ≤ 2 → unsigned_abs z ≤ 2
is_small (pos n) fits low = omega (arith, ints, fits, low)
is_small (negsuc n) fits low = absurd (omega (arith, ints, fits, low))

module _ (truths : List Bool) (first count : ℕ) (total : ℤ) (fits : FitsSigned w64 total) (low : of_z w64 total < 2) (f : ScalarFunction) where
  abbrev folds : ℤ → Result ℤ Fault
  folds z = folded_onto f (item_in (map truth_element truths)) first count (Ok z)

  abbrev b : Bool
  b = nat_eq (of_z w64 total) 1

  is_bit : total ≡ bit b
  is_bit = is_low total fits low

  pub ones_onto : IsConjunction f → ones truths first count ≡ count → folds total ≡ Ok total
  ones_onto asks all = ap folds is_bit ∙ all_ones truths first f asks count b all ∙ ap (λ z. Ok z) (sym is_bit)

  pub zero_onto : IsConjunction f → ones truths first count < count → folds total ≡ Ok (pos 0)
  zero_onto asks few = ap folds is_bit ∙ not_all truths first f asks count b few

  pub zeros_onto : IsDisjunction f → ones truths first count ≡ 0 → folds total ≡ Ok total
  zeros_onto asks none = ap folds is_bit ∙ no_ones truths first f asks count b none ∙ ap (λ z. Ok z) (sym is_bit)

  pub one_onto : IsDisjunction f → 0 < ones truths first count → folds total ≡ Ok (pos 1)
  one_onto asks some = ap folds is_bit ∙ some_ones truths first f asks count b some

  turned_over : (b : Bool) → bit (not b) ≡ pos 1 -ℤ bit b
  turned_over true = refl
  turned_over false = refl

  pub even_onto : (turn : Bool) → TurnsAt turn f → turns truths first turn count % 2 ≡ 0 → folds total ≡ Ok total
  even_onto turn asks even = ap folds is_bit ∙ (by_turns truths first turn f asks count b).0 even ∙ ap (λ z. Ok z) (sym is_bit)

  pub odd_onto : (turn : Bool) → TurnsAt turn f → turns truths first turn count % 2 ≡ 1 → folds total ≡ Ok (pos 1 -ℤ total)
  odd_onto turn asks odd = ap folds is_bit ∙ (by_turns truths first turn f asks count b).1 odd ∙ ap (λ z. Ok z) (turned_over b ∙ ap (λ z. pos 1 -ℤ z) (sym is_bit))
