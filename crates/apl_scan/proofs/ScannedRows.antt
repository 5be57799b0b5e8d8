-- The row of a scan.
use Rattle.std.proofs.Common.{◌≡◌, ℕ, zero, suc, ◌<◌, ◌≤◌, Bool, true, false, Result, Ok, slice_index, refl, ap, sym, subst, ◌∙◌, ⊎_elim, arith}
use Rattle.std.specs.Prelude.{◌||◌, ◌⊎◌, if◌then◌else◌}
use Rattle.std.proofs.lemmas.Bool.{cases_Bool, eqb-true}
use Rattle.apl_array.specs.declared.array.Kind.TheVariants.{Number}
use Rattle.apl_array.specs.declared.axis.Axis.{Axis}
use Rattle.apl_array.specs.declared.function.ScalarFunction.{ScalarFunction}
use Rattle.apl_array.specs.Axes.{has_axis, axis_of}
use Rattle.apl_array.specs.Array.{ArrayValue, element_at}
use Rattle.apl_answer.specs.declared.fault.OpFault.{OpFault}
use Rattle.apl_answer.specs.Arguments.{is_scalar, rank_of}
use Rattle.apl_answer.specs.Pointwise.{answer_of, IsAnswerOf}
use Rattle.apl_answer.specs.Rows.{Answers}
use Rattle.apl_scan.specs.Scanning.{is_short, is_unchanged, items_up_to, scanned, scan_row}

-- the answer along axis j where it is known whether the array is answered as it is
abbrev AnswersAlong : ScalarFunction → ArrayValue → Result ArrayValue OpFault → ℕ → Bool → Type 0
AnswersAlong f b result j same = IsAnswerOf (answer_of b.shape (λ index. if same then Ok (element_at b index) else scanned f b.kind (items_up_to b j index)) (if same then b.kind else Number)) result

row_answer : (f : ScalarFunction) (b : ArrayValue) (axis : Axis) (k : ℕ) (same : Bool) (result : Result ArrayValue OpFault) → has_axis axis (rank_of b) ≡ true → k ≡ axis_of axis (rank_of b)
    → is_unchanged b k ≡ same → AnswersAlong f b result k same → Answers (scan_row f b axis) result
row_answer f b axis k same result has is decided answer =
    let all : AnswersAlong f b result k (is_unchanged b k) = subst (AnswersAlong f b result k) (sym decided) answer in
    rw has (subst (λ j. AnswersAlong f b result j (is_unchanged b j)) is all)

long_is : (n : ℕ) → 2 ≤ n → is_short n ≡ false
long_is zero many = absurd (omega (arith, many))
long_is (suc zero) many = absurd (omega (arith, many))
long_is (suc (suc n)) many = refl

-- two and more items
pub scanned_answer : (f : ScalarFunction) (b : ArrayValue) (axis : Axis) (k : ℕ) (result : Result ArrayValue OpFault) → has_axis axis (rank_of b) ≡ true → k ≡ axis_of axis (rank_of b)
    → k < rank_of b → 2 ≤ slice_index b.shape k → IsAnswerOf (answer_of b.shape (λ index. scanned f b.kind (items_up_to b k index)) Number) result → Answers (scan_row f b axis) result
scanned_answer f b axis k result has is inside many answer = row_answer f b axis k false result has is same answer
  where
    some : is_scalar b ≡ false
    some =
        ⊎_elim
        (λ none. let no : rank_of b ≡ 0 = eqb-true (rank_of b) 0 none in absurd (omega (arith, no, inside)))
        (λ is_some. is_some)
        (cases_Bool (is_scalar b))

    same : is_unchanged b k ≡ false
    same = ap (λ p. p || is_short (slice_index b.shape k)) some ∙ long_is (slice_index b.shape k) many

-- an array that is no scalar has the axis
pub axis_within : (k n : ℕ) → ((k < n) ⊎ (n ≡ 0)) → (n ≡ 0 → ⊥) → k < n
axis_within k n found some = ⊎_elim (λ below. below) (λ none. absurd (some none)) found
