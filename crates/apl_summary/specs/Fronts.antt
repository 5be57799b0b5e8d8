-- What is known of the numbers before others. No contract of a public function cites this file.
use Rattle.std.specs.Prelude.{◌≡◌, ℕ, ◌+◌, ◌-◌, ◌*◌, ◌≤◌, Bool, true, false, ◌&&◌, ℤ, pos, negsuc, neg_ℤ, ◌+ℤ◌, ◌-ℤ◌, ◌*ℤ◌, ◌≤ℤ◌, int_le, unsigned_abs, List, [], ◌∷◌, ◌++◌, length, take, Result, Ok, Err, if◌then◌else◌}
use Rattle.apl_array.specs.declared.function.ScalarFunction.{ScalarFunction}
use Rattle.apl_array.specs.declared.function.ScalarFunction.TheVariants.{Times}
use Rattle.apl_array.specs.Range.{least_number, greatest_number}
use Rattle.apl_pool.specs.declared.kernel.Fault.{Fault}
use Rattle.apl_pool.specs.declared.kernel.Fault.TheVariants.{Limit}
use Rattle.apl_pool.specs.Pool.{AreValues}
use Rattle.apl_pool.specs.Summaries.{IsI64, fold_onto}
use Rattle.apl_scalar.specs.Scalar.{bit, dyadic_numbers}
use Rattle.apl_summary.specs.declared.constants.Bounds.{Bounds}
use Rattle.apl_summary.specs.declared.constants.Constants.{Constants}
use Rattle.apl_summary.specs.Constants.{bounds, of_both, signed_function}
use Rattle.apl_summary.specs.Extremes.{extreme_function, extreme_of_two}
use Rattle.apl_summary.specs.Running.{AreFoldsBehind, HasFoldsAppended}

-- ---- numbers before others

-- Of whatever numbers the front is, with the first `from` of these after them: if the old values are the folds up to each of the first
-- `from`, the new ones are the folds up to each of the first `to`
abbrev pub AreMoreFolds : {S : Type 0} → (ℤ → ℤ → Result ℤ Fault) → (is_of : S → List ℤ → Type 0) → (front : S) → (numbers : List ℤ) → (from : ℕ) → (old : List ℤ) → (to : ℕ) → (values : List ℤ) → Type 0
AreMoreFolds step is_of front numbers from old to values =
    (before : List ℤ) → is_of front (before ++ take from numbers) → AreFoldsBehind step before numbers from old → AreFoldsBehind step before numbers to values

-- to whatever values the folds of all numbers up to each of the first `from` were appended, after the old ones more of them are appended
abbrev pub HasMoreAppended : (ℤ → ℤ → Result ℤ Fault) → (numbers : List ℤ) → (from : ℕ) → (old new : List ℤ) → Type 0
HasMoreAppended step numbers from old new = (before : List ℤ) → length before + from ≡ length old → HasFoldsAppended step numbers before old → HasFoldsAppended step numbers before new

-- of whatever numbers the front is, with the first `from` of these after them, the next front is with the first `to`
abbrev pub IsFrontBehind : {S : Type 0} → (is_of : S → List ℤ → Type 0) → (front : S) → (numbers : List ℤ) → (from to : ℕ) → (next : S) → Type 0
IsFrontBehind is_of front numbers from to next = (before : List ℤ) → is_of front (before ++ take from numbers) → is_of next (before ++ take to numbers)

-- ---- sums and differences

-- the total plus what comes in, or minus it
abbrev pub signed_total : (is_negated : Bool) → (total right : ℤ) → ℤ
signed_total is_negated total right = if is_negated then total -ℤ right else total +ℤ right

-- With what comes in, -1 minus a constant is in the range exactly where the constant minus it is. So it is a constant with plus that
-- refuses the same
abbrev pub mirrored : Bounds → Bounds
mirrored b = bounds (negsuc 0 -ℤ b.greatest) (negsuc 0 -ℤ b.least)

-- the bounds of the constants with plus and of the mirrored ones with minus
abbrev pub all_with_plus : Constants → Bounds
all_with_plus c = of_both c.plus (mirrored c.minus)

-- whether the least and the greatest constant with plus, and a number after them, are in the range
abbrev pub sums_fit : (least greatest right : ℤ) → Bool
sums_fit least greatest right = int_le least_number (least +ℤ right) && int_le (greatest +ℤ right) greatest_number

abbrev pub sum_outcome : (is_negated : Bool) → (total least greatest right : ℤ) → Result ℤ Fault
sum_outcome is_negated total least greatest right = if sums_fit least greatest right then Ok (signed_total is_negated total right) else Err Limit

-- The total of the numbers, which the next one is added to or taken from. Beside it are the least and the greatest constant of an end of
-- them; one end is of no number. Those with minus are mirrored
pub record IsRunningSum (is_plus is_negated : Bool) (total least greatest : ℤ) (numbers : List ℤ) : Type 0 where
  pub only_plus : is_plus ≡ true → is_negated ≡ false
  pub not_above : least ≤ℤ pos 0
  pub not_below : pos 0 ≤ℤ greatest
  pub does : (right : ℤ) → IsI64 right → fold_onto (dyadic_numbers (signed_function is_plus)) numbers right ≡ sum_outcome is_negated total least greatest right

-- the total of the numbers; a number after them of at most this magnitude is refused by no end of them
pub record IsBoundedSum (is_plus is_negated : Bool) (total slack : ℤ) (numbers : List ℤ) : Type 0 where
  pub only_plus : is_plus ≡ true → is_negated ≡ false
  pub adds : (right : ℤ) → neg_ℤ slack ≤ℤ right → right ≤ℤ slack → fold_onto (dyadic_numbers (signed_function is_plus)) numbers right ≡ Ok (signed_total is_negated total right)

-- of whatever numbers the first are the running sum, the others are the bounded sum
abbrev pub IsBoundOf : (is_plus is_negated : Bool) → (total least greatest : ℤ) → (negated : Bool) → (sum slack : ℤ) → Type 0
IsBoundOf is_plus is_negated total least greatest negated sum slack = (numbers : List ℤ) → IsRunningSum is_plus is_negated total least greatest numbers → IsBoundedSum is_plus negated sum slack numbers

-- The first `count` values are the sums, or differences, of all numbers up to each of these. The running sum is of the numbers before them
abbrev pub AreSumsAfter : (is_plus is_negated : Bool) → (total least greatest : ℤ) → (numbers : List ℤ) → (count : ℕ) → (values : List ℤ) → Type 0
AreSumsAfter is_plus is_negated total least greatest numbers count values =
    (before : List ℤ) → IsRunningSum is_plus is_negated total least greatest before → AreFoldsBehind (dyadic_numbers (signed_function is_plus)) before numbers count values

-- ---- products

-- the product of all numbers, from that of those after the last 0
abbrev pub product_of_all : (has_zero : Bool) → (after_zero : ℤ) → ℤ
product_of_all has_zero after_zero = if has_zero then pos 0 else after_zero

-- The product of the numbers. A number after them of which the magnitude times `most` is in the range is refused by no end of them.
pub record IsBoundedProduct (total : ℤ) (most : ℕ) (numbers : List ℤ) : Type 0 where
  pub multiplies : (right : ℤ) → most * unsigned_abs right ≤ 9223372036854775807 → fold_onto (dyadic_numbers Times) numbers right ≡ Ok (total *ℤ right)

-- ---- extremes and bits

-- the least or the greatest of the numbers
abbrev pub IsRunningExtreme : Bool → ℤ → List ℤ → Type 0
IsRunningExtreme is_least item numbers = (right : ℤ) → IsI64 right → fold_onto (dyadic_numbers (extreme_function is_least)) numbers right ≡ Ok (extreme_of_two is_least item right)

-- what the numbers answer for 0 and for 1
pub record AreRunningBits (f : ScalarFunction) (for_zero for_one : Bool) (numbers : List ℤ) : Type 0 where
  pub zero_is : fold_onto (dyadic_numbers f) numbers (pos 0) ≡ Ok (bit for_zero)
  pub one_is : fold_onto (dyadic_numbers f) numbers (pos 1) ≡ Ok (bit for_one)

-- of whatever numbers answer so for 0 and for 1, with one more item they answer so
abbrev pub AreNextBits : ScalarFunction → (for_zero for_one : Bool) → (item : ℤ) → (next_zero next_one : Bool) → Type 0
AreNextBits f for_zero for_one item next_zero next_one = (numbers : List ℤ) → AreRunningBits f for_zero for_one numbers → AreRunningBits f next_zero next_one (numbers ++ item ∷ [])

-- of whatever numbers answer so, this is what they answer for what comes in
abbrev pub IsBitsAnswer : ScalarFunction → (for_zero for_one : Bool) → (right answer : ℤ) → Type 0
IsBitsAnswer f for_zero for_one right answer = (numbers : List ℤ) → AreRunningBits f for_zero for_one numbers → fold_onto (dyadic_numbers f) numbers right ≡ Ok answer

-- and this is what they answer with one more item
abbrev pub IsNextAnswer : ScalarFunction → (for_zero for_one : Bool) → (item right answer : ℤ) → Type 0
IsNextAnswer f for_zero for_one item right answer = (numbers : List ℤ) → AreRunningBits f for_zero for_one numbers → fold_onto (dyadic_numbers f) (numbers ++ item ∷ []) right ≡ Ok answer

-- the items at the places from `from` up to before `to`, and what they answer for 0 and for 1
pub record AreBitsFrom (f : ScalarFunction) (outcome : ℕ → Result ℤ Fault) (from to : ℕ) (for_zero for_one : Bool) : Type 0 where
  pub items : List ℤ
  pub values : AreValues (λ k. outcome (from + k)) (to - from) items
  pub answers : AreRunningBits f for_zero for_one items
