-- The row of a reduction.
use Rattle.std.proofs.Common.{◌≡◌, ℕ, zero, suc, ◌+◌, ◌*◌, ◌/◌, ◌%◌, ◌<◌, true, false, List, [], map, length, Result, Ok, slice_index, refl, ap, sym, subst, ◌∙◌, ⊎_elim, eq-eqb, arith}
use Rattle.std.specs.Prelude.{◌==◌, ◌||◌, ◌⊎◌, if◌then◌else◌, drop, take, insert, remove}
use Rattle.std.specs.List.{range_with_len}
use Rattle.std.proofs.lemmas.Bool.{cases_Bool, eqb-true}
use Rattle.std.proofs.lemmas.List.{nil_from_length}
use Rattle.std.proofs.Math.Nat.{div-add-mod}
use Rattle.apl_array.specs.declared.array.Kind.TheVariants.{Number}
use Rattle.apl_array.specs.declared.axis.Axis.{Axis}
use Rattle.apl_array.specs.declared.function.ScalarFunction.{ScalarFunction}
use Rattle.apl_array.specs.Axes.{has_axis, axis_of}
use Rattle.apl_array.specs.Shape.{count_of, index_at, place_of, is_shape}
use Rattle.apl_array.specs.Array.{ArrayValue, element_in, element_at}
use Rattle.apl_answer.specs.declared.fault.OpFault.{OpFault}
use Rattle.apl_answer.specs.Arguments.{is_scalar, rank_of}
use Rattle.apl_answer.specs.Pointwise.{answer_of, IsAnswerOf}
use Rattle.apl_answer.specs.Rows.{Answers}
use Rattle.apl_reduce.specs.Folding.{reduction}
use Rattle.apl_reduce.specs.Reducing.{items_along, reduced_kind, reduce_row}
use Rattle.apl_reduce.proofs.Reductions.{items_are}

remove_nil : (k : ℕ) → remove {X = ℕ} [] k ≡ []
remove_nil zero = refl
remove_nil (suc k) = refl

-- the answer where both checks hold
pub row_answer : (f : ScalarFunction) (b : ArrayValue) (axis : Axis) (k : ℕ) (result : Result ArrayValue OpFault) → has_axis axis (rank_of b) ≡ true → k ≡ axis_of axis (rank_of b) → is_shape (remove b.shape k) ≡ true
    → IsAnswerOf (answer_of (remove b.shape k) (λ index. reduction f (items_along b k index)) (reduced_kind b k)) result → Answers (reduce_row f b axis) result
row_answer f b axis k result has is lawful answer =
    let P : ℕ → Type 0 = λ j. IsAnswerOf (answer_of (remove b.shape j) (λ index. reduction f (items_along b j index)) (reduced_kind b j)) result in
    let there : is_shape (remove b.shape (axis_of axis (rank_of b))) ≡ true = ap (λ j. is_shape (remove b.shape j)) (sym is) ∙ lawful in
    rw (has, there) (subst P is answer)

-- a scalar is its only item
pub scalar_answer : (f : ScalarFunction) (b : ArrayValue) (axis : Axis) (result : Result ArrayValue OpFault) → length b.shape ≡ 0 → has_axis axis (rank_of b) ≡ true
    → IsAnswerOf (answer_of b.shape (λ index. reduction f (items_along b (axis_of axis (rank_of b)) index)) b.kind) result → Answers (reduce_row f b axis) result
scalar_answer f b axis result none has answer =
    let k = axis_of axis (rank_of b) in
    let shape : b.shape ≡ [] = nil_from_length b.shape none in
    let scalar : is_scalar b ≡ true = eq-eqb (rank_of b) 0 none in
    let rest : remove b.shape k ≡ b.shape = ap (λ s. remove s k) shape ∙ remove_nil k ∙ sym shape in
    let lawful : is_shape (remove b.shape k) ≡ true = ap is_shape (rest ∙ shape) in
    let kind : reduced_kind b k ≡ b.kind = rw scalar refl in
    let P : List ℕ → Type 0 = λ s. IsAnswerOf (answer_of s (λ index. reduction f (items_along b k index)) (reduced_kind b k)) result in
    row_answer f b axis k result has refl lawful (subst P (sym rest) (rw kind answer))

pub scalar_item : (f : ScalarFunction) (b : ArrayValue) (k : ℕ) (index : List ℕ) (place : ℕ) → length b.shape ≡ 0 → place < count_of b.shape → Ok (element_in b place) ≡ reduction f (items_along b k index)
scalar_item f b k index place none inside =
    let shape : b.shape ≡ [] = nil_from_length b.shape none in
    let scalar : is_scalar b ≡ true = eq-eqb (rank_of b) 0 none in
    let one : count_of b.shape ≡ 1 = ap count_of shape in
    let first : place ≡ 0 = omega (arith, inside, one) in
    rw scalar (ap (λ p. Ok (element_in b p)) first)

-- an array that is no scalar has the axis
pub axis_within : (k n : ℕ) → ((k < n) ⊎ (n ≡ 0)) → (n ≡ 0 → ⊥) → k < n
axis_within k n found some = ⊎_elim (λ below. below) (λ none. absurd (some none)) found

some_axis : (b : ArrayValue) (k : ℕ) → k < rank_of b → is_scalar b ≡ false
some_axis b k axis =
    ⊎_elim
    (λ none. let no : rank_of b ≡ 0 = eqb-true (rank_of b) 0 none in absurd (omega (arith, no, axis)))
    (λ some. some)
    (cases_Bool (is_scalar b))

pub kind_of_one : (b : ArrayValue) (k : ℕ) → slice_index b.shape k ≡ 1 → k < rank_of b → reduced_kind b k ≡ b.kind
kind_of_one b k one axis = rw (some_axis b k axis, one) refl

pub kind_of_others : (b : ArrayValue) (k : ℕ) → (slice_index b.shape k ≡ 1 → ⊥) → k < rank_of b → reduced_kind b k ≡ Number
kind_of_others b k other axis =
    ⊎_elim
    (λ one. absurd (other (eqb-true (slice_index b.shape k) 1 one)))
    (λ more. ap (λ p. if p then b.kind else Number) (ap (λ s. s || (slice_index b.shape k == 1)) (some_axis b k axis) ∙ more))
    (cases_Bool (slice_index b.shape k == 1))

pub no_items : (f : ScalarFunction) (b : ArrayValue) (k : ℕ) (index : List ℕ) → k < rank_of b → slice_index b.shape k ≡ 0 → reduction f (items_along b k index) ≡ reduction f []
no_items f b k index axis none = ap (reduction f) (items_are b k index axis ∙ ap (λ n. map (λ i. element_at b (insert index k i)) (range_with_len 0 n)) none)

pub one_item : (f : ScalarFunction) (b : ArrayValue) (k : ℕ) (index : List ℕ) → k < rank_of b → slice_index b.shape k ≡ 1 → reduction f (items_along b k index) ≡ Ok (element_at b (insert index k 0))
one_item f b k index axis one = ap (reduction f) (items_are b k index axis ∙ ap (λ n. map (λ i. element_at b (insert index k i)) (range_with_len 0 n)) one)

module _ (removed : (shape : List ℕ) (k : ℕ) → k < length shape → count_of (remove shape k) ≡ count_of (take k shape) * count_of (drop (k + 1) shape))
    (counted : (shape : List ℕ) (k : ℕ) → k < length shape → count_of shape ≡ count_of (take k shape) * slice_index shape k * count_of (drop (k + 1) shape)) where
  pub count_without_one : (shape : List ℕ) (k : ℕ) → k < length shape → slice_index shape k ≡ 1 → count_of (remove shape k) ≡ count_of shape
  count_without_one shape k axis one =
      let all : count_of shape ≡ count_of (take k shape) * 1 * count_of (drop (k + 1) shape) = counted shape k axis ∙ ap (λ n. count_of (take k shape) * n * count_of (drop (k + 1) shape)) one in
      omega (arith, all, removed shape k axis)

module _ (placed : (shape : List ℕ) (k place i : ℕ) → k < length shape → place < count_of (remove shape k)
    → place_of shape (insert (index_at (remove shape k) place) k i)
    ≡ (place / count_of (drop (k + 1) shape) * slice_index shape k + i) * count_of (drop (k + 1) shape) + place % count_of (drop (k + 1) shape)) where
  -- along an axis of length 1 places stay
  pub untested_item : (f : ScalarFunction) (b : ArrayValue) (k place : ℕ) → k < rank_of b → slice_index b.shape k ≡ 1 → place < count_of (remove b.shape k)
      → Ok (element_in b place) ≡ reduction f (items_along b k (index_at (remove b.shape k) place))
  untested_item f b k place axis one inside =
      let inner = count_of (drop (k + 1) b.shape) in
      let index = index_at (remove b.shape k) place in
      let there : place_of b.shape (insert index k 0) ≡ (place / inner * 1 + 0) * inner + place % inner =
      placed b.shape k place 0 axis inside ∙ ap (λ n. (place / inner * n + 0) * inner + place % inner) one in
      let same : place ≡ place_of b.shape (insert index k 0) = omega (arith, there, div-add-mod place inner) in
      ap (λ p. Ok (element_in b p)) same ∙ sym (one_item f b k index axis one)
