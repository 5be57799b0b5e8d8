-- The elements that meet at a place of an inner product.
use Rattle.std.proofs.Common.{◌≡◌, ℕ, zero, suc, ◌+◌, ◌-◌, ◌*◌, ◌<◌, ◌≤◌, ◌==◌, Bool, true, false, List, [], ◌∷◌, ◌++◌, length, take, drop, slice_index, refl, sym, ap, ◌∙◌, arith}
use Rattle.std.specs.Prelude.{◌||◌, ◌&&◌, if◌then◌else◌, nat_le}
use Rattle.std.proofs.Math.Nat.{mul-le-mul_right}
use Rattle.std.proofs.lemmas.Bool.Decides.{nat_tests}
use Rattle.std.proofs.lemmas.List.{length-take-le, take-append-drop}
use Rattle.apl_array.specs.Array.{ArrayValue, element_at}
use Rattle.apl_array.specs.Shape.{count_of, place_of}
use Rattle.apl_answer.specs.Arguments.{rank_of, only_element}
use Rattle.apl_reduce.specs.Items.{item_in}
use Rattle.apl_reduce.specs.Products.{is_single, last_length, first_length}
use Rattle.apl_reduce.proofs.Joined.{taken_part, dropped_part}

-- ---- what the tests say

single_rank : (a : ArrayValue) → is_single a ≡ true → rank_of a ≤ 1
single_rank a single = grind (arith, nat_tests)

single_count : (a : ArrayValue) → is_single a ≡ true → count_of a.shape ≡ 1
single_count a single = grind (arith, nat_tests)

axes_of_several : (shape : List ℕ) → (nat_le (length shape) 1 && (count_of shape == 1)) ≡ false → 0 < length shape
axes_of_several [] several = absurd cc
axes_of_several (n ∷ ns) several = omega arith

some_axes : (a : ArrayValue) → is_single a ≡ false → 0 < rank_of a
some_axes a several = axes_of_several a.shape several

-- an argument that is not single has the common length along its axis
pub lengths_agree : (p q : Bool) (last first n : ℕ) → (p || (q || (last == first))) ≡ true → n ≡ (if p && q then 1 else if p then first else last)
    → (p ≡ false → n ≡ last) × (q ≡ false → n ≡ first)
lengths_agree true true last first n agree is = (λ e. absurd cc, λ e. absurd cc)
lengths_agree true false last first n agree is = (λ e. absurd cc, λ e. is)
lengths_agree false true last first n agree is = (λ e. is, λ e. absurd cc)
lengths_agree false false last first n agree is = let same : last ≡ first = grind (arith, nat_tests) in (λ e. is, λ e. is ∙ same)

-- ---- shapes with an axis at an end

last_split : (m : ℕ) (xs : List ℕ) → length xs ≡ suc m → xs ≡ take m xs ++ slice_index xs m ∷ []
last_split m [] len = absurd (omega arith)
last_split zero (x ∷ []) len = refl
last_split zero (x ∷ y ∷ ys) len = absurd (omega arith)
last_split (suc m) (x ∷ []) len = absurd (omega arith)
last_split (suc m) (x ∷ y ∷ ys) len = ap (λ l. x ∷ l) (last_split m (y ∷ ys) (omega arith))

first_split : (xs : List ℕ) → 0 < length xs → xs ≡ slice_index xs 0 ∷ drop 1 xs
first_split [] some = absurd (omega arith)
first_split (x ∷ xs) some = refl

-- the axes that an argument gives to the result, by whether it is single
abbrev pub left_part : Bool → ArrayValue → List ℕ
left_part s a = if s then [] else take (rank_of a - 1) a.shape

abbrev pub right_part : Bool → ArrayValue → List ℕ
right_part s b = if s then [] else drop 1 b.shape

pub left_axes : (a : ArrayValue) (s : Bool) → is_single a ≡ s → length (left_part s a) ≡ rank_of a - 1
left_axes a true single = omega (arith, single_rank a single)
left_axes a false several = length-take-le (rank_of a - 1) a.shape (omega arith)

last_axis : (a : ArrayValue) (n : ℕ) → is_single a ≡ false → n ≡ last_length a → a.shape ≡ take (rank_of a - 1) a.shape ++ n ∷ []
last_axis a n several is =
    let some = some_axes a several in
    last_split (rank_of a - 1) a.shape (omega arith) ∙ ap (λ l. take (rank_of a - 1) a.shape ++ l ∷ []) (sym is)

first_axis : (b : ArrayValue) (n : ℕ) → is_single b ≡ false → n ≡ first_length b → b.shape ≡ n ∷ drop 1 b.shape
first_axis b n several is = first_split b.shape (some_axes b several) ∙ ap (λ l. l ∷ drop 1 b.shape) (sym is)

-- ---- numbers

line_below : (line lines n k : ℕ) → line < lines → k < n → line * n + k < lines * n
line_below line lines n k below inside =
    let more : line + 1 ≤ lines = omega arith in
    omega (arith, mul-le-mul_right n more)

line_start : (line lines n most : ℕ) → line < lines → lines * n ≤ most → line * n ≤ most
line_start line lines n most below fits =
    let more : line ≤ lines = omega arith in
    omega (arith, mul-le-mul_right n more)

positive_factor : (m n : ℕ) → 0 < m * n → 0 < n
positive_factor m zero some = absurd (omega arith)
positive_factor m (suc n) some = omega arith

factor_below : (m n : ℕ) → 0 < m * n → n ≤ m * n
factor_below zero n some = absurd (omega arith)
factor_below (suc m) n some = omega arith

module _ (counts : (x y : List ℕ) → count_of (x ++ y) ≡ count_of x * count_of y) where
  pub end_count : (k : ℕ) (shape : List ℕ) → 0 < count_of shape → (0 < count_of (drop k shape)) × (count_of (drop k shape) ≤ count_of shape)
  end_count k shape some =
      let parts : count_of shape ≡ count_of (take k shape) * count_of (drop k shape) = ap count_of (sym (take-append-drop k shape)) ∙ counts (take k shape) (drop k shape) in
      let some' : 0 < count_of (take k shape) * count_of (drop k shape) = omega arith in
      (positive_factor (count_of (take k shape)) (count_of (drop k shape)) some', omega (arith, factor_below (count_of (take k shape)) (count_of (drop k shape)) some'))

-- ---- the left argument

module _ (counts : (x y : List ℕ) → count_of (x ++ y) ≡ count_of x * count_of y)
    (placed : (x y i j : List ℕ) → length i ≡ length x → place_of (x ++ y) (i ++ j) ≡ place_of x i * count_of y + place_of y j) where
  pub left_meets : (a : ArrayValue) (s : Bool) → is_single a ≡ s → (n : ℕ) → (s ≡ false → n ≡ last_length a) → (i j : List ℕ) (row k : ℕ) → length i ≡ length (left_part s a)
      → place_of (left_part s a) i ≡ row
      → item_in a.ravel (row * (if s then 0 else n) + k * (if s then 0 else 1)) ≡ (if s then only_element a else element_at a (take (rank_of a - 1) (i ++ j) ++ k ∷ []))
  left_meets a true single n last i j row k len here = let none : row * 0 + k * 0 ≡ 0 = omega arith in ap (item_in a.ravel) none
  left_meets a false several n last i j row k len here =
      let front = take (rank_of a - 1) a.shape in
      let shape : a.shape ≡ front ++ n ∷ [] = last_axis a n several (last refl) in
      let taken : take (rank_of a - 1) (i ++ j) ≡ i = taken_part i j (rank_of a - 1) (len ∙ left_axes a false several) in
      let place : place_of a.shape (i ++ k ∷ []) ≡ row * n + k * 1 =
      ap (λ s. place_of s (i ++ k ∷ [])) shape ∙ placed front (n ∷ []) i (k ∷ []) len ∙ ap (λ r. r * (n * 1) + (k * 1 + 0)) here ∙ (omega arith) in
      ap (item_in a.ravel) (sym place) ∙ ap (λ l. element_at a (l ++ k ∷ [])) (sym taken)

  pub left_within : (a : ArrayValue) (s : Bool) → is_single a ≡ s → (n : ℕ) → (s ≡ false → n ≡ last_length a) → (row k : ℕ) → row < count_of (left_part s a) → k < n
      → row * (if s then 0 else n) + k * (if s then 0 else 1) < count_of a.shape
  left_within a true single n last row k below inside = omega (arith, single_count a single)
  left_within a false several n last row k below inside =
      let front = take (rank_of a - 1) a.shape in
      let count : count_of a.shape ≡ count_of front * (n * 1) = ap count_of (last_axis a n several (last refl)) ∙ counts front (n ∷ []) in
      omega (arith, count, line_below row (count_of front) n k below inside)

  pub left_begins : (a : ArrayValue) (s : Bool) → is_single a ≡ s → (n : ℕ) → (s ≡ false → n ≡ last_length a) → (row : ℕ) → row < count_of (left_part s a)
      → row * (if s then 0 else n) ≤ count_of a.shape
  left_begins a true single n last row below = omega arith
  left_begins a false several n last row below =
      let front = take (rank_of a - 1) a.shape in
      let count : count_of a.shape ≡ count_of front * (n * 1) = ap count_of (last_axis a n several (last refl)) ∙ counts front (n ∷ []) in
      omega (arith, count, line_start row (count_of front) n (count_of front * n) below (omega arith))

-- ---- the right argument

pub right_meets : (b : ArrayValue) (s : Bool) → is_single b ≡ s → (n : ℕ) → (s ≡ false → n ≡ first_length b) → (columns m : ℕ) → columns ≡ count_of (right_part s b) → (i j : List ℕ) (column k : ℕ)
    → length i ≡ m → place_of (right_part s b) j ≡ column
    → item_in b.ravel (column * (if s then 0 else 1) + k * (if s then 0 else columns)) ≡ (if s then only_element b else element_at b (k ∷ drop m (i ++ j)))
right_meets b true single n first columns m wide i j column k len here = let none : column * 0 + k * 0 ≡ 0 = omega arith in ap (item_in b.ravel) none
right_meets b false several n first columns m wide i j column k len here =
    let rest = drop 1 b.shape in
    let shape : b.shape ≡ n ∷ rest = first_axis b n several (first refl) in
    let left : drop m (i ++ j) ≡ j = dropped_part i j m len in
    let place : place_of b.shape (k ∷ j) ≡ column * 1 + k * columns =
    ap (λ s. place_of s (k ∷ j)) shape ∙ ap (λ c. k * count_of rest + c) here ∙ ap (λ c. k * c + column) (sym wide) ∙ (omega arith) in
    ap (item_in b.ravel) (sym place) ∙ ap (λ l. element_at b (k ∷ l)) (sym left)

pub right_within : (b : ArrayValue) (s : Bool) → is_single b ≡ s → (n : ℕ) → (s ≡ false → n ≡ first_length b) → (columns column k : ℕ) → columns ≡ count_of (right_part s b)
    → column < columns → k < n → column * (if s then 0 else 1) + k * (if s then 0 else columns) < count_of b.shape
right_within b true single n first columns column k wide below inside = omega (arith, single_count b single)
right_within b false several n first columns column k wide below inside =
    let count : count_of b.shape ≡ n * columns = ap count_of (first_axis b n several (first refl)) ∙ ap (λ c. n * c) (sym wide) in
    omega (arith, count, line_below k n columns column inside below)

pub right_begins : (s : Bool) (column columns : ℕ) → column < columns → column * (if s then 0 else 1) ≤ columns
right_begins true column columns below = omega arith
right_begins false column columns below = omega arith
