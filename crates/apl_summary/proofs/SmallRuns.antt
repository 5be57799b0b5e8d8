-- Runs of places, summarized from the last item to the first.
use Rattle.std.proofs.Common.{◌≡◌, ℕ, zero, suc, ◌+◌, ◌-◌, ◌<◌, ◌≤◌, Bool, true, false, ℤ, List, [], ◌∷◌, Result, Ok, Err, ap, ◌∙◌, refl, arith}
use Rattle.std.specs.Prelude.{slice_index_or}
use Rattle.apl_pool.specs.declared.kernel.Fault.{Fault}
use Rattle.apl_pool.specs.Pool.{AreValues}
use Rattle.apl_pool.specs.Summaries.{IsI64, and_then, IsSummaryFrom}
use Rattle.apl_scalar.specs.Scalar.{dyadic_numbers}
use Rattle.apl_summary.specs.declared.constants.Constants.{Constants}
use Rattle.apl_summary.specs.Constants.{constants_of_one, constants_of_both, signed_function, signed_outcome, AreConstants}
use Rattle.std.proofs.lemmas.Int.{ints}
use Rattle.apl_summary.specs.SmallConstants.{IsSmallSum}
use Rattle.apl_summary.specs.declared.extremum.Extremum.{Extremum}
use Rattle.apl_summary.specs.Extremes.{extremum, extreme_function, extreme_outcome, extremum_of_one, extremum_of_both}
use Rattle.apl_summary.proofs.ExtremeItems.{joined_in_range, extreme_in_range, one_is as one_extreme, joined_outcome as both_extremes}
use Rattle.apl_array.specs.declared.function.ScalarFunction.TheVariants.{Times}
use Rattle.apl_summary.specs.declared.coefficients.Coefficients.{Coefficients}
use Rattle.apl_summary.specs.Coefficients.{AreCoefficients, coefficients_of_one, coefficients_of_both, scaled_outcome}
use Rattle.apl_summary.specs.SmallCoefficients.{IsFactor}
use Rattle.apl_summary.proofs.ScaledProducts.{scaled_in_range, one_is as one_scaled, joined_outcome as both_scaled, one_are as one_coefficients, joined_are as joined_coefficients}
use Rattle.apl_summary.proofs.SignedSums.{one_is, one_are, joined_are, joined_outcome, signed_in_range}

module _ {X : Type 0} (outcome : ℕ → Result X Fault) where
  value_at : (place : ℕ) (x : X) → outcome place ≡ Ok x → AreValues (λ k. outcome (place + k)) (place + 1 - place) (x ∷ [])
  value_at place x is = record { len = omega arith; each = each } where
    each : (k : ℕ) (d : X) → k < place + 1 - place → outcome (place + k) ≡ Ok (slice_index_or (x ∷ []) k d)
    each zero d h = let same : place + 0 ≡ place = omega arith in ap outcome same ∙ is
    each (suc k) d h = absurd (omega (arith, h))

  values_behind : (place to : ℕ) (x : X) (items : List X) → place < to → outcome place ≡ Ok x → AreValues (λ k. outcome (place + 1 + k)) (to - (place + 1)) items
      → AreValues (λ k. outcome (place + k)) (to - place) (x ∷ items)
  values_behind place to x items inside is values = record { len = omega (arith, values.len); each = each } where
    each : (k : ℕ) (d : X) → k < to - place → outcome (place + k) ≡ Ok (slice_index_or (x ∷ items) k d)
    each zero d h = let same : place + 0 ≡ place = omega arith in ap outcome same ∙ is
    each (suc k) d h = let same : place + suc k ≡ place + 1 + k = omega arith in ap outcome same ∙ values.each k d (omega (arith, h))

  module _ {S : Type 0} (step : X → ℤ → Result ℤ Fault) (item_count : S → ℕ) (does : S → ℤ → Result ℤ Fault) where
    pub last_item : (place : ℕ) (x : X) (s : S) → outcome place ≡ Ok x → item_count s ≡ 1 → ((right : ℤ) → IsI64 right → does s right ≡ step x right)
        → ((right z : ℤ) → IsI64 right → does s right ≡ Ok z → IsI64 z) → IsSummaryFrom step item_count does outcome place (place + 1) s
    last_item place x s is c o r = record { items = x ∷ []; values = value_at place x is; summary = record { number_of_items = c; does = o }; range = r }

    meets : (one : ℤ → Result ℤ Fault) (x : X) (o : Result ℤ Fault) → ((z : ℤ) → o ≡ Ok z → IsI64 z) → ((right : ℤ) → IsI64 right → one right ≡ step x right) → and_then o one ≡ and_then o (step x)
    meets one x (Ok z) h k = k z (h z refl)
    meets one x (Err fault) h k = refl

    -- one more item on the left
    pub item_behind : (place to : ℕ) (x : X) (one : ℤ → Result ℤ Fault) (b s : S) → place < to → outcome place ≡ Ok x → IsSummaryFrom step item_count does outcome (place + 1) to b
        → ((right : ℤ) → IsI64 right → one right ≡ step x right) → item_count s ≡ 1 + item_count b → ((right : ℤ) → IsI64 right → does s right ≡ and_then (does b right) one)
        → ((right z : ℤ) → IsI64 right → does s right ≡ Ok z → IsI64 z) → IsSummaryFrom step item_count does outcome place to s
    item_behind place to x one b s inside is p step_is c o r = record {
      items = x ∷ p.items;
      values = values_behind place to x p.items inside is p.values;
      summary = record {
        number_of_items = omega (arith, c, p.summary.number_of_items);
        does = λ right h. o right h ∙ meets one x (does b right) (λ z e. p.range right z h e) step_is ∙ ap (λ (t : Result ℤ Fault). and_then t (step x)) (p.summary.does right h);
      };
      range = r;
    }

pub small_in_range : (x : ℤ) → IsSmallSum 1 x → IsI64 x
small_in_range x small = (omega (arith, ints, small.0, small.1), omega (arith, ints, small.0, small.1))

pub factor_in_range : (x : ℤ) → IsFactor x → IsI64 x
factor_in_range x small = (omega (arith, ints, small.0, small.1), omega (arith, ints, small.0, small.1))

pub fits_behind : (is_plus : Bool) (x : ℤ) (b : Constants) → 1 + b.count ≤ 1073741824 → (constants_of_one is_plus x).count + b.count ≤ 1073741824
fits_behind true x b most = most
fits_behind false x b most = most

module _ (is_plus : Bool) (outcome : ℕ → Result ℤ Fault) where
  abbrev IsConstantsFrom : ℕ → ℕ → Constants → Type 0
  IsConstantsFrom from to c = IsSummaryFrom (dyadic_numbers (signed_function is_plus)) (λ (c : Constants). c.count) signed_outcome outcome from to c

  pub last_constants : (place : ℕ) (x : ℤ) → outcome place ≡ Ok x → IsI64 x → IsConstantsFrom place (place + 1) (constants_of_one is_plus x)
  last_constants place x is inside =
      last_item outcome (dyadic_numbers (signed_function is_plus)) (λ (c : Constants). c.count) signed_outcome place x (constants_of_one is_plus x) is (one_count is_plus) (one_is is_plus x)
      (λ right z h o. signed_in_range is_plus (constants_of_one is_plus x) right z (one_are is_plus x inside) h o) where
        one_count : (is_plus : Bool) → (constants_of_one is_plus x).count ≡ 1
        one_count true = refl
        one_count false = refl

  pub constants_behind : (place to : ℕ) (x : ℤ) (b : Constants) → place < to → outcome place ≡ Ok x → IsI64 x → AreConstants is_plus b → 1 + b.count ≤ 1073741824
      → IsConstantsFrom (place + 1) to b → IsConstantsFrom place to (constants_of_both is_plus (constants_of_one is_plus x) b)
  constants_behind place to x b inside is range are most p =
      item_behind outcome (dyadic_numbers (signed_function is_plus)) (λ (c : Constants). c.count) signed_outcome place to x (signed_outcome (constants_of_one is_plus x)) b
      (constants_of_both is_plus (constants_of_one is_plus x) b) inside is p (one_is is_plus x) (count is_plus)
      (joined_outcome is_plus (constants_of_one is_plus x) b one are)
      (λ right z h o. signed_in_range is_plus (constants_of_both is_plus (constants_of_one is_plus x) b) right z (joined_are is_plus (constants_of_one is_plus x) b one are (fits_behind is_plus x b most)) h o) where
        one : AreConstants is_plus (constants_of_one is_plus x)
        one = one_are is_plus x range

        count : (is_plus : Bool) → (constants_of_both is_plus (constants_of_one is_plus x) b).count ≡ 1 + b.count
        count true = refl
        count false = refl

module _ (is_least : Bool) (outcome : ℕ → Result ℤ Fault) where
  abbrev IsExtremumFrom : ℕ → ℕ → Extremum → Type 0
  IsExtremumFrom from to e = IsSummaryFrom (dyadic_numbers (extreme_function is_least)) (λ (e : Extremum). e.count) (extreme_outcome is_least) outcome from to e

  pub last_extremum : (place : ℕ) (x : ℤ) → outcome place ≡ Ok x → IsI64 x → IsExtremumFrom place (place + 1) (extremum 1 x)
  last_extremum place x is inside =
      last_item outcome (dyadic_numbers (extreme_function is_least)) (λ (e : Extremum). e.count) (extreme_outcome is_least) place x (extremum 1 x) is refl (λ right h. one_extreme is_least x right)
      (λ right z h o. extreme_in_range is_least (extremum 1 x) right z inside h o)

  pub extremum_behind : (place to : ℕ) (x : ℤ) (b : Extremum) → place < to → outcome place ≡ Ok x → IsI64 x → IsI64 b.item
      → IsExtremumFrom (place + 1) to b → IsExtremumFrom place to (extremum_of_both is_least (extremum_of_one x) b)
  extremum_behind place to x b inside is one other p =
      item_behind outcome (dyadic_numbers (extreme_function is_least)) (λ (e : Extremum). e.count) (extreme_outcome is_least) place to x (extreme_outcome is_least (extremum_of_one x)) b
      (extremum_of_both is_least (extremum_of_one x) b) inside is p (λ right h. one_extreme is_least x right) refl
      (λ right h. both_extremes is_least (extremum_of_one x) b right)
      (λ right z h o. extreme_in_range is_least (extremum_of_both is_least (extremum_of_one x) b) right z (joined_in_range is_least (extremum_of_one x) b one other) h o)

module _ (outcome : ℕ → Result ℤ Fault) where
  abbrev AreCoefficientsFrom : ℕ → ℕ → Coefficients → Type 0
  AreCoefficientsFrom from to c = IsSummaryFrom (dyadic_numbers Times) (λ (c : Coefficients). c.count) scaled_outcome outcome from to c

  pub last_coefficients : (place : ℕ) (x : ℤ) → outcome place ≡ Ok x → IsI64 x → AreCoefficientsFrom place (place + 1) (coefficients_of_one x)
  last_coefficients place x is inside =
      last_item outcome (dyadic_numbers Times) (λ (c : Coefficients). c.count) scaled_outcome place x (coefficients_of_one x) is refl (λ right h. one_scaled x right)
      (λ right z h o. scaled_in_range (coefficients_of_one x) right z (one_coefficients x inside) h o)

  pub coefficients_behind : (place to : ℕ) (x : ℤ) (b : Coefficients) → place < to → outcome place ≡ Ok x → IsI64 x → AreCoefficients b → 1 + b.count ≤ 1073741824
      → AreCoefficientsFrom (place + 1) to b → AreCoefficientsFrom place to (coefficients_of_both (coefficients_of_one x) b)
  coefficients_behind place to x b inside is range are most p =
      item_behind outcome (dyadic_numbers Times) (λ (c : Coefficients). c.count) scaled_outcome place to x (scaled_outcome (coefficients_of_one x)) b
      (coefficients_of_both (coefficients_of_one x) b) inside is p (λ right h. one_scaled x right) refl
      (λ right h. both_scaled (coefficients_of_one x) b right (one_coefficients x range) are)
      (λ right z h o. scaled_in_range (coefficients_of_both (coefficients_of_one x) b) right z (joined_coefficients (coefficients_of_one x) b (one_coefficients x range) are most) h o)
