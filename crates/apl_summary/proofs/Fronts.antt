-- What is known of the numbers in front of others, with one more number behind them.
use Rattle.std.proofs.Common.{◌≡◌, ℕ, ◌*◌, ◌≤◌, ℤ, pos, negsuc, neg_ℤ, ◌+ℤ◌, ◌-ℤ◌, ◌*ℤ◌, ◌≤ℤ◌, int_le, Bool, true, false, true≢false, cond, not, ◌&&◌, List, [], ◌∷◌, ◌++◌, Result, Ok, Err, refl, sym, ap, ◌∙◌, subst, arith, mul-le-mul_right, if◌then◌else◌}
use Rattle.std.proofs.lemmas.Int.{ints, clamps, unsigned_abs-mul}
use Rattle.std.proofs.Math.Nat.{mul_assoc}
use Rattle.std.specs.Prelude.{unsigned_abs}
use borrow.Author.Differences.{product_is}
use Rattle.std.specs.Int.{int_min, int_max}
use Rattle.apl_array.specs.declared.function.ScalarFunction.{ScalarFunction}
use Rattle.apl_array.specs.declared.function.ScalarFunction.TheVariants.{Times}
use Rattle.apl_array.specs.Range.{in_range, least_number, greatest_number}
use Rattle.apl_pool.specs.declared.kernel.Fault.{Fault}
use Rattle.apl_pool.specs.declared.kernel.Fault.TheVariants.{Limit}
use Rattle.apl_pool.specs.Summaries.{IsI64, and_then, fold_onto}
use Rattle.apl_scalar.specs.Scalar.{bit, is_one, dyadic_numbers}
use Rattle.apl_summary.specs.Answers.{is_two_valued}
use Rattle.apl_summary.specs.Extremes.{extreme_function, extreme_of_two}
use Rattle.apl_summary.specs.declared.coefficients.Coefficients.{Coefficients}
use Rattle.apl_summary.specs.Coefficients.{scaled_outcome}
use Rattle.apl_summary.specs.declared.constants.Constants.{Constants}
use Rattle.apl_summary.specs.Constants.{are_in_range, signed_outcome, signed_function, AreConstants}
use Rattle.apl_summary.specs.Fronts.{signed_total, all_with_plus, sums_fit, sum_outcome, IsRunningSum, IsBoundedSum, IsBoundedProduct, product_of_all, IsRunningExtreme, AreRunningBits}
use Rattle.apl_summary.proofs.Products.{mul_assoc_ℤ}
use Rattle.apl_summary.proofs.ExtremeItems.{two_in_range, one_is, nested}
use Rattle.apl_summary.proofs.TwoValuedAnswers.{two_valued_is_bit}
use Rattle.apl_summary.proofs.FrontNumbers.{fold_behind}
use Rattle.apl_summary.proofs.SignedSums.{passes, fits_from, le_true, true_le, by_test, and_true, true_and, in_range_true, in_range_is}

pub extreme_front : (is_least : Bool) (item x : ℤ) (numbers : List ℤ) → IsI64 x → IsRunningExtreme is_least item numbers → IsRunningExtreme is_least (extreme_of_two is_least item x) (numbers ++ x ∷ [])
extreme_front is_least item x numbers inside is = λ right range.
    fold_behind (dyadic_numbers (extreme_function is_least)) numbers x right
    ∙ ap (λ o. and_then o (fold_onto (dyadic_numbers (extreme_function is_least)) numbers)) (sym (one_is is_least x right))
    ∙ is (extreme_of_two is_least x right) (two_in_range is_least x right inside range)
    ∙ ap (λ (z : ℤ). Ok z) (sym (nested is_least item x right))

-- ---- sums and differences

abbrev signed : Bool → ℤ → ℤ → Result ℤ Fault
signed is_plus = dyadic_numbers (signed_function is_plus)

-- what a number makes of the one on its right
abbrev of_pair : Bool → ℤ → ℤ → ℤ
of_pair is_plus x right = cond is_plus (x +ℤ right) (x -ℤ right)

signed_ok : (is_plus : Bool) (x right : ℤ) → in_range (of_pair is_plus x right) ≡ true → signed is_plus x right ≡ Ok (of_pair is_plus x right)
signed_ok true x right e = ap (λ (b : Bool). cond b (Ok (x +ℤ right)) (Err Limit)) e
signed_ok false x right e = ap (λ (b : Bool). cond b (Ok (x -ℤ right)) (Err Limit)) e

signed_err : (is_plus : Bool) (x right : ℤ) → in_range (of_pair is_plus x right) ≡ false → signed is_plus x right ≡ Err Limit
signed_err true x right e = ap (λ (b : Bool). cond b (Ok (x +ℤ right)) (Err Limit)) e
signed_err false x right e = ap (λ (b : Bool). cond b (Ok (x -ℤ right)) (Err Limit)) e

-- the sign after one more number
abbrev pub next_sign : (is_plus is_negated : Bool) → Bool
next_sign is_plus is_negated = not is_plus && not is_negated

plus_stays : (is_plus is_negated : Bool) → is_plus ≡ true → next_sign is_plus is_negated ≡ false
plus_stays true is_negated e = refl
plus_stays false is_negated e = absurd (true≢false (sym e))

-- under `+` the sign is plus, so it need not be asked for
pub same_sign : (is_plus is_negated : Bool) → (is_plus ≡ true → is_negated ≡ false) → (not is_plus && is_negated) ≡ is_negated
same_sign true is_negated only_plus = sym (only_plus refl)
same_sign false is_negated only_plus = refl

total_behind : (is_plus is_negated : Bool) (total x right : ℤ) → (is_plus ≡ true → is_negated ≡ false)
    → signed_total is_negated total (of_pair is_plus x right) ≡ signed_total (next_sign is_plus is_negated) (signed_total is_negated total x) right
total_behind true true total x right only_plus = absurd (true≢false (only_plus refl))
total_behind true false total x right only_plus = omega (arith, ints)
total_behind false true total x right only_plus = omega (arith, ints)
total_behind false false total x right only_plus = omega (arith, ints)

same_test : (a b : Bool) → (a ≡ true → b ≡ true) → (b ≡ true → a ≡ true) → a ≡ b
same_test true b f g = sym (f refl)
same_test false true f g = g refl
same_test false false f g = refl

record Fit (least greatest right : ℤ) : Type 0 where
  pub above : negsuc 9223372036854775807 ≤ℤ (least +ℤ right)
  pub below : (greatest +ℤ right) ≤ℤ pos 9223372036854775807

fit : (least greatest right : ℤ) → sums_fit least greatest right ≡ true → Fit least greatest right
fit least greatest right e = let p = and_true _ _ e in record { above = le_true _ _ p.0; below = le_true _ _ p.1 }

fits : (least greatest right : ℤ) → Fit least greatest right → sums_fit least greatest right ≡ true
fits least greatest right f = true_and _ _ (true_le _ _ f.above) (true_le _ _ f.below)

pub sum_value : (is_plus is_negated : Bool) (total least greatest x : ℤ) (numbers : List ℤ) → IsI64 x → IsI64 (least +ℤ x) → IsI64 (greatest +ℤ x) → IsRunningSum is_plus is_negated total least greatest numbers
    → fold_onto (signed is_plus) numbers x ≡ Ok (signed_total is_negated total x)
sum_value is_plus is_negated total least greatest x numbers inside low high is =
    is.does x inside ∙ ap (λ (b : Bool). cond b (Ok (signed_total is_negated total x)) (Err Limit)) (fits least greatest x (record { above = low.0; below = high.1 }))

-- the bounds after one more number
abbrev pub least_behind : Bool → (least greatest x : ℤ) → ℤ
least_behind is_plus least greatest x = int_min (cond is_plus (least +ℤ x) (negsuc 0 -ℤ (greatest +ℤ x))) (pos 0)

abbrev pub greatest_behind : Bool → (least greatest x : ℤ) → ℤ
greatest_behind is_plus least greatest x = int_max (cond is_plus (greatest +ℤ x) (negsuc 0 -ℤ (least +ℤ x))) (pos 0)

-- what comes in is refused by the numbers and one more exactly where what that gives is refused by the numbers
fit_behind : (is_plus : Bool) (least greatest x right : ℤ) → IsI64 right → Fit least greatest (of_pair is_plus x right) → Fit (least_behind is_plus least greatest x) (greatest_behind is_plus least greatest x) right
fit_behind true least greatest x right range f = record { above = omega (arith, ints, clamps, f.above, range.0); below = omega (arith, ints, clamps, f.below, range.1) }
fit_behind false least greatest x right range f = record { above = omega (arith, ints, clamps, f.below, range.0); below = omega (arith, ints, clamps, f.above, range.1) }

fit_before : (is_plus : Bool) (least greatest x right : ℤ) → Fit (least_behind is_plus least greatest x) (greatest_behind is_plus least greatest x) right → Fit least greatest (of_pair is_plus x right)
fit_before true least greatest x right f = record { above = omega (arith, ints, clamps, f.above); below = omega (arith, ints, clamps, f.below) }
fit_before false least greatest x right f = record { above = omega (arith, ints, clamps, f.below); below = omega (arith, ints, clamps, f.above) }

-- with bounds on both sides of 0, what all ends keep in the range is in it
fit_is_in : (least greatest v : ℤ) → least ≤ℤ pos 0 → pos 0 ≤ℤ greatest → Fit least greatest v → in_range v ≡ true
fit_is_in least greatest v low high f = in_range_true v (omega (arith, ints, f.above, low), omega (arith, ints, f.below, high))

abbrev outcome_behind : (is_plus is_negated : Bool) (total least greatest x right : ℤ) → Result ℤ Fault
outcome_behind is_plus is_negated total least greatest x right =
    sum_outcome (next_sign is_plus is_negated) (signed_total is_negated total x) (least_behind is_plus least greatest x) (greatest_behind is_plus least greatest x) right

pub sum_front : (is_plus is_negated : Bool) (total least greatest x : ℤ) (numbers : List ℤ) → IsRunningSum is_plus is_negated total least greatest numbers
    → IsRunningSum is_plus (next_sign is_plus is_negated) (signed_total is_negated total x) (least_behind is_plus least greatest x) (greatest_behind is_plus least greatest x) (numbers ++ x ∷ [])
sum_front is_plus is_negated total least greatest x numbers is = record {
  only_plus = plus_stays is_plus is_negated;
  not_above = omega (arith, ints, clamps);
  not_below = omega (arith, ints, clamps);
  does = λ right range.
      fold_behind (signed is_plus) numbers x right
      ∙ by_test (in_range (of_pair is_plus x right)) (and_then (signed is_plus x right) (fold_onto (signed is_plus) numbers) ≡ outcome_behind is_plus is_negated total least greatest x right) (added right range) (refused right);
} where
  added : (right : ℤ) → IsI64 right → in_range (of_pair is_plus x right) ≡ true → and_then (signed is_plus x right) (fold_onto (signed is_plus) numbers) ≡ outcome_behind is_plus is_negated total least greatest x right
  added right range e =
      let v = of_pair is_plus x right in
      let low = least_behind is_plus least greatest x in
      let high = greatest_behind is_plus least greatest x in
      let tests : sums_fit least greatest v ≡ sums_fit low high right =
      same_test _ _
      (λ t. fits low high right (fit_behind is_plus least greatest x right range (fit least greatest v t)))
      (λ t. fits least greatest v (fit_before is_plus least greatest x right (fit low high right t))) in
      ap (λ o. and_then o (fold_onto (signed is_plus) numbers)) (signed_ok is_plus x right e)
      ∙ is.does v (in_range_is v e)
      ∙ ap (λ (b : Bool). cond b (Ok (signed_total is_negated total v)) (Err Limit)) tests
      ∙ ap (λ (z : ℤ). cond (sums_fit low high right) (Ok z) (Err Limit)) (total_behind is_plus is_negated total x right is.only_plus)

  refused : (right : ℤ) → in_range (of_pair is_plus x right) ≡ false → and_then (signed is_plus x right) (fold_onto (signed is_plus) numbers) ≡ outcome_behind is_plus is_negated total least greatest x right
  refused right e =
      let v = of_pair is_plus x right in
      let low = least_behind is_plus least greatest x in
      let high = greatest_behind is_plus least greatest x in
      let past : sums_fit low high right ≡ false =
      by_test (sums_fit low high right) (sums_fit low high right ≡ false)
      (λ t. absurd (true≢false (sym (fit_is_in least greatest v is.not_above is.not_below (fit_before is_plus least greatest x right (fit low high right t))) ∙ e)))
      (λ t. t) in
      ap (λ o. and_then o (fold_onto (signed is_plus) numbers)) (signed_err is_plus x right e)
      ∙ sym (ap (λ (b : Bool). cond b (Ok (signed_total (next_sign is_plus is_negated) (signed_total is_negated total x) right)) (Err Limit)) past)

-- ---- bits

abbrev pub answer_for : (for_zero for_one : Bool) → ℤ → Bool
answer_for for_zero for_one z = if is_one z then for_one else for_zero

pub at_bit : (f : ScalarFunction) (for_zero for_one t : Bool) (numbers : List ℤ) → AreRunningBits f for_zero for_one numbers → fold_onto (dyadic_numbers f) numbers (bit t) ≡ Ok (bit (answer_for for_zero for_one (bit t)))
at_bit f for_zero for_one true numbers are = are.one_is
at_bit f for_zero for_one false numbers are = are.zero_is

pub bit_is : (t : Bool) (x : ℤ) → x ≡ bit t → x ≡ bit (is_one x)
bit_is true x is = rw is refl
bit_is false x is = rw is refl

-- what a number answers for one on its right is a bit
pub bits_front : (f : ScalarFunction) (for_zero for_one : Bool) (x right z : ℤ) (numbers : List ℤ) → is_two_valued f ≡ true → dyadic_numbers f x right ≡ Ok z → AreRunningBits f for_zero for_one numbers
    → fold_onto (dyadic_numbers f) (numbers ++ x ∷ []) right ≡ Ok (bit (answer_for for_zero for_one z))
bits_front f for_zero for_one x right z numbers two is are =
    let b = two_valued_is_bit f x right z two is in
    fold_behind (dyadic_numbers f) numbers x right
    ∙ ap (λ o. and_then o (fold_onto (dyadic_numbers f) numbers)) is
    ∙ ap (fold_onto (dyadic_numbers f) numbers) b.1
    ∙ at_bit f for_zero for_one b.0 numbers are
    ∙ ap (λ y. Ok (bit (answer_for for_zero for_one y))) (sym b.1)

-- ---- from the constants of a summary

-- where all constants are in the range, so is the total
pub total_in : (is_plus : Bool) (c : Constants) → AreConstants is_plus c → are_in_range (all_with_plus c) ≡ true → IsI64 c.total
total_in is_plus c are e =
    let p = and_true (int_le least_number (all_with_plus c).least) (int_le (all_with_plus c).greatest greatest_number) e in
    let low : negsuc 9223372036854775807 ≤ℤ int_min c.plus.least (negsuc 0 -ℤ c.minus.greatest) = le_true _ _ p.0 in
    let high : int_max c.plus.greatest (negsuc 0 -ℤ c.minus.least) ≤ℤ pos 9223372036854775807 = le_true _ _ p.1 in
    by_test c.is_negated (IsI64 c.total)
    (λ n. let q = are.total_with_minus n in (omega (arith, ints, clamps, low, high, q.0, q.1), omega (arith, ints, clamps, low, high, q.0, q.1)))
    (λ n. let q = are.total_with_plus n in (omega (arith, ints, clamps, low, high, q.0, q.1), omega (arith, ints, clamps, low, high, q.0, q.1)))

-- constants do what their mirrored bounds do
pub constants_do : (c : Constants) (right : ℤ) → signed_outcome c right ≡ sum_outcome c.is_negated c.total (all_with_plus c).least (all_with_plus c).greatest right
constants_do c right =
    ap (λ (b : Bool). cond b (Ok (signed_total c.is_negated c.total right)) (Err Limit))
    (same_test _ _
    (λ t. let p = passes c right t in fits _ _ right (record { above = omega (arith, ints, clamps, p.least, p.minus_greatest); below = omega (arith, ints, clamps, p.greatest, p.minus_least) }))
    (λ t. let f = fit _ _ right t in
    let above = f.above in
    let below = f.below in
    fits_from c right (record { least = omega (arith, ints, clamps, above); greatest = omega (arith, ints, clamps, below); minus_least = omega (arith, ints, clamps, below); minus_greatest = omega (arith, ints, clamps, above) })))

-- ---- sums that are small together

-- a number behind them that is small enough is added
pub bounded_value : (is_plus is_negated : Bool) (total slack m x : ℤ) (numbers : List ℤ) → m ≤ℤ slack → neg_ℤ m ≤ℤ x → x ≤ℤ m → IsBoundedSum is_plus is_negated total slack numbers
    → fold_onto (signed is_plus) numbers x ≡ Ok (signed_total is_negated total x)
bounded_value is_plus is_negated total slack m x numbers most least greatest is = is.adds x (omega (arith, ints, most, least)) (omega (arith, ints, most, greatest))

pair_near : (is_plus : Bool) (slack m x right : ℤ) → neg_ℤ m ≤ℤ x → x ≤ℤ m → neg_ℤ (slack -ℤ m) ≤ℤ right → right ≤ℤ (slack -ℤ m) → (neg_ℤ slack ≤ℤ of_pair is_plus x right) × (of_pair is_plus x right ≤ℤ slack)
pair_near true slack m x right least greatest low high = (omega (arith, ints, least, greatest, low, high), omega (arith, ints, least, greatest, low, high))
pair_near false slack m x right least greatest low high = (omega (arith, ints, least, greatest, low, high), omega (arith, ints, least, greatest, low, high))

pub bounded_front : (is_plus is_negated : Bool) (total slack m x : ℤ) (numbers : List ℤ) → slack ≤ℤ pos 9223372036854775807 → neg_ℤ m ≤ℤ x → x ≤ℤ m → IsBoundedSum is_plus is_negated total slack numbers
    → IsBoundedSum is_plus (next_sign is_plus is_negated) (signed_total is_negated total x) (slack -ℤ m) (numbers ++ x ∷ [])
bounded_front is_plus is_negated total slack m x numbers fits least greatest is = record {
  only_plus = plus_stays is_plus is_negated;
  adds = λ right low high.
      let v = of_pair is_plus x right in
      let near = pair_near is_plus slack m x right least greatest low high in
      let near_low = near.0 in
      let near_high = near.1 in
      fold_behind (signed is_plus) numbers x right
      ∙ ap (λ o. and_then o (fold_onto (signed is_plus) numbers)) (signed_ok is_plus x right (in_range_true v (near_in slack v fits near_low near_high)))
      ∙ is.adds v near_low near_high
      ∙ ap (λ (z : ℤ). Ok z) (total_behind is_plus is_negated total x right is.only_plus);
} where
  near_in : (slack v : ℤ) → slack ≤ℤ pos 9223372036854775807 → neg_ℤ slack ≤ℤ v → v ≤ℤ slack → IsI64 v
  near_in slack v fits low high = (omega (arith, ints, fits, low), omega (arith, ints, fits, high))

-- the total stays as far within the range
pub bounded_total : (is_negated : Bool) (total slack m x : ℤ) → neg_ℤ m ≤ℤ x → x ≤ℤ m → (slack -ℤ pos 9223372036854775807) ≤ℤ total → total ≤ℤ (pos 9223372036854775807 -ℤ slack)
    → (((slack -ℤ m) -ℤ pos 9223372036854775807) ≤ℤ signed_total is_negated total x) × (signed_total is_negated total x ≤ℤ (pos 9223372036854775807 -ℤ (slack -ℤ m)))
bounded_total true total slack m x low high least greatest = (omega (arith, ints, low, high, least), omega (arith, ints, low, high, greatest))
bounded_total false total slack m x low high least greatest = (omega (arith, ints, low, high, least), omega (arith, ints, low, high, greatest))

pub bounded_in : (is_negated : Bool) (total slack m x : ℤ) → m ≤ℤ slack → neg_ℤ m ≤ℤ x → x ≤ℤ m → (slack -ℤ pos 9223372036854775807) ≤ℤ total → total ≤ℤ (pos 9223372036854775807 -ℤ slack) → IsI64 (signed_total is_negated total x)
bounded_in true total slack m x most low high least greatest = (omega (arith, ints, most, low, high, least), omega (arith, ints, most, low, high, greatest))
bounded_in false total slack m x most low high least greatest = (omega (arith, ints, most, low, high, least), omega (arith, ints, most, low, high, greatest))

-- where the sums of all ends are far enough within the range, so is each with a small number behind
pub sum_is_bounded : (is_plus is_negated : Bool) (total least greatest slack : ℤ) (numbers : List ℤ) → slack ≤ℤ pos 9223372036854775807 → (slack -ℤ pos 9223372036854775807) ≤ℤ least → greatest ≤ℤ (pos 9223372036854775807 -ℤ slack)
    → IsRunningSum is_plus is_negated total least greatest numbers → IsBoundedSum is_plus is_negated total slack numbers
sum_is_bounded is_plus is_negated total least greatest slack numbers most far_least far_greatest is = record {
  only_plus = is.only_plus;
  adds = λ right low high.
      is.does right (omega (arith, ints, most, low), omega (arith, ints, most, high))
      ∙ ap (λ (b : Bool). cond b (Ok (signed_total is_negated total right)) (Err Limit)) (fits least greatest right (record { above = omega (arith, ints, far_least, low); below = omega (arith, ints, far_greatest, high) }));
}

-- ---- products

abbrev times : ℤ → ℤ → Result ℤ Fault
times = dyadic_numbers Times

in_by_magnitude : (z : ℤ) → unsigned_abs z ≤ 9223372036854775807 → IsI64 z
in_by_magnitude (pos n) h = (omega (arith, ints, h), omega (arith, ints, h))
in_by_magnitude (negsuc n) h = (omega (arith, ints, h), omega (arith, ints, h))

-- a factor of at most this magnitude
product_near : (x right : ℤ) (most : ℕ) → unsigned_abs x ≤ most → most * unsigned_abs right ≤ 9223372036854775807 → in_range (x *ℤ right) ≡ true
product_near x right most near small =
    let less = mul-le-mul_right (unsigned_abs right) near in
    let is = unsigned_abs-mul x right in
    in_range_true (x *ℤ right) (in_by_magnitude (x *ℤ right) (omega (arith, less, small, is)))

-- the numbers meet a product whose magnitude times `most` is in the range
pub product_front : (total x : ℤ) (most next : ℕ) (numbers : List ℤ) → 1 ≤ most → most * unsigned_abs x ≤ next → IsBoundedProduct total most numbers → IsBoundedProduct (total *ℤ x) next (numbers ++ x ∷ [])
product_front total x most next numbers some less is = record {
  multiplies = λ right small.
      let grown = mul-le-mul_right (unsigned_abs right) less in
      let whole : (most * unsigned_abs x) * unsigned_abs right ≤ 9223372036854775807 = omega (arith, grown, small) in
      let one : 1 * unsigned_abs x ≤ most * unsigned_abs x = mul-le-mul_right (unsigned_abs x) some in
      let near : unsigned_abs x ≤ most * unsigned_abs x = omega (arith, one) in
      let all : most * unsigned_abs (x *ℤ right) ≡ (most * unsigned_abs x) * unsigned_abs right = ap (λ n. most * n) (unsigned_abs-mul x right) ∙ sym (mul_assoc most (unsigned_abs x) (unsigned_abs right)) in
      fold_behind times numbers x right
      ∙ ap (λ (b : Bool). and_then (cond b (Ok (x *ℤ right)) (Err Limit)) (fold_onto times numbers)) (product_near x right (most * unsigned_abs x) near whole)
      ∙ is.multiplies (x *ℤ right) (omega (arith, all, whole))
      ∙ ap (λ (z : ℤ). Ok z) (sym (mul_assoc_ℤ total x right));
}

all_times : (has_zero : Bool) (after x : ℤ) → product_of_all has_zero after *ℤ x ≡ product_of_all has_zero (after *ℤ x)
all_times true after x = let is = product_is (pos 0) x in omega (arith, ints, is)
all_times false after x = refl

-- where the product after the last 0 keeps the range and is not -2^63, the numbers multiply
pub product_value : (has_zero : Bool) (after x next : ℤ) (numbers : List ℤ) → next ≡ after *ℤ x → unsigned_abs next ≤ 9223372036854775807
    → IsBoundedProduct (product_of_all has_zero after) (unsigned_abs after) numbers → fold_onto times numbers x ≡ Ok (product_of_all has_zero next)
product_value has_zero after x next numbers product small is =
    let size : unsigned_abs next ≡ unsigned_abs after * unsigned_abs x = ap unsigned_abs product ∙ unsigned_abs-mul after x in
    is.multiplies x (omega (arith, size, small)) ∙ ap (λ (z : ℤ). Ok z) (all_times has_zero after x ∙ ap (product_of_all has_zero) (sym product))

-- with one more number the product of all is `all`, and no product of an end has a magnitude above `most`
pub product_after : (has_zero : Bool) (after x next all : ℤ) (most : ℕ) (numbers : List ℤ) → next ≡ after *ℤ x → 1 ≤ unsigned_abs after → all ≡ product_of_all has_zero next → unsigned_abs next ≤ most
    → IsBoundedProduct (product_of_all has_zero after) (unsigned_abs after) numbers → IsBoundedProduct all most (numbers ++ x ∷ [])
product_after has_zero after x next all most numbers product some total less is =
    let size : unsigned_abs next ≡ unsigned_abs after * unsigned_abs x = ap unsigned_abs product ∙ unsigned_abs-mul after x in
    subst (λ (z : ℤ). IsBoundedProduct z most (numbers ++ x ∷ [])) (all_times has_zero after x ∙ ap (product_of_all has_zero) (sym product) ∙ sym total)
    (product_front (product_of_all has_zero after) x (unsigned_abs after) most numbers some (omega (arith, size, less)) is)

-- what the items do where all coefficients are near enough to 0
pub product_is_bounded : (c : Coefficients) (most : ℕ) → unsigned_abs c.least ≤ most → unsigned_abs c.greatest ≤ most → (right : ℤ) → most * unsigned_abs right ≤ 9223372036854775807 → scaled_outcome c right ≡ Ok (c.total *ℤ right)
product_is_bounded c most least greatest right small =
    ap (λ (b : Bool). cond b (Ok (c.total *ℤ right)) (Err Limit)) (true_and _ _ (product_near c.least right most least small) (product_near c.greatest right most greatest small))

pub factor_in_range : (right : ℤ) (most : ℕ) → 1 ≤ most → most * unsigned_abs right ≤ 9223372036854775807 → IsI64 right
factor_in_range right most some small =
    let less = mul-le-mul_right (unsigned_abs right) some in
    in_by_magnitude right (omega (arith, less, small))
