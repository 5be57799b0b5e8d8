-- A rotation and the opposite one.
use Rattle.std.proofs.Common.{◌≡◌, ℕ, ℤ, pos, negsuc, zero, suc, ◌+◌, ◌-◌, ◌*◌, ◌%◌, ◌<◌, ◌≤◌, List, [], ◌∷◌, map, slice_index, slice_index_or, refl, sym, ap, subst, ◌∙◌, ⊎_elim, arith}
use Rattle.std.specs.Prelude.{◌+ℤ◌, neg_ℤ, nat_abs, slice_set, remove, if◌then◌else◌}
use Rattle.std.proofs.lemmas.Int.{ints, int_rem_euclid_is}
use Rattle.std.proofs.Math.Nat.{mod-lt, mod-eq_of_lt, mod-add-mod, add-mul-mod_self_right}
use Rattle.std.proofs.lemmas.Bool.{cases_Bool}
use Rattle.apl_array.specs.declared.axis.Axis.{Axis}
use Rattle.apl_array.specs.declared.array.Elem.{Elem}
use Rattle.apl_array.specs.declared.array.Elem.TheVariants.{Int}
use Rattle.apl_array.specs.Axes.{axis_of, place_number}
use Rattle.apl_array.specs.Shape.{IsIndexOf, place_of}
use Rattle.apl_array.specs.Array.{ArrayValue, IsArray, element_at}
use Rattle.apl_answer.specs.Arguments.{rank_of, number_of, has_one_element, only_element}
use Rattle.apl_answer.specs.Rows.{HavePassed}
use Rattle.apl_struct.specs.Gathering.{along_axis}
use Rattle.apl_struct.specs.Rearranging.{rotation_at, rotated_index, rotate_row}
use Rattle.apl_laws.specs.Giving.{Gives}
use Rattle.apl_laws.specs.Turning.{opposite}
use Rattle.apl_laws.proofs.Given.{Places, array_by, given, element_by, gives_array}
use Rattle.apl_laws.proofs.AlongAxes.{ReplacedLaw, along_lawful, along_back, others_stay}

-- ---- the numbers

-- a rotation as one by a natural number
shift : ℤ → ℕ → ℕ
shift (pos m) n = m
shift (negsuc m) n = suc m * n - suc m

at_least : (m n : ℕ) → 0 < n → suc m ≤ suc m * n
at_least m zero some = absurd (omega arith)
at_least m (suc n) some = omega arith

rotated_is : (r : ℤ) (n i : ℕ) → 0 < n → rotated_index r n i ≡ (i + shift r n) % n
unfolding shift
rotated_is (pos m) n i some = refl
rotated_is (negsuc m) n i some =
    let least = at_least m n some in
    ap place_number (int_rem_euclid_is (pos i +ℤ negsuc m) (pos n) n (suc m) (i + (suc m * n - suc m)) some refl (omega (arith, ints)))

together : (r : ℤ) (n : ℕ) → 0 < n → shift (neg_ℤ r) n + shift r n ≡ nat_abs r * n
unfolding shift
together (pos zero) n some = omega arith
together (pos (suc m)) n some = let least = at_least m n some in omega arith
together (negsuc m) n some = let least = at_least m n some in omega arith

rotated_back : (r : ℤ) (n i : ℕ) → i < n → rotated_index r n (rotated_index (neg_ℤ r) n i) ≡ i
rotated_back r n i inside =
    let some : 0 < n = omega arith in
    let s = shift r n in
    let t = shift (neg_ℤ r) n in
    let sum : i + t + s ≡ i + nat_abs r * n = omega (arith, together r n some) in
    rotated_is r n (rotated_index (neg_ℤ r) n i) some ∙ ap (λ j. (j + s) % n) (rotated_is (neg_ℤ r) n i some)
    ∙ mod-add-mod (i + t) n s ∙ ap (λ m. m % n) sum ∙ add-mul-mod_self_right i (nat_abs r) n ∙ mod-eq_of_lt inside

rotated_within : (r : ℤ) (n i : ℕ) → i < n → rotated_index r n i < n
rotated_within r n i inside = let some : 0 < n = omega arith in rw (rotated_is r n i some) (mod-lt (i + shift r n) some)

-- ---- the opposite rotation

opposite_in : (xs : List Elem) (place : ℕ)
    → number_of (slice_index_or (map (λ x. Int (neg_ℤ (number_of x))) xs) place (Int (pos 0))) ≡ neg_ℤ (number_of (slice_index_or xs place (Int (pos 0))))
opposite_in [] place = refl
opposite_in (x ∷ xs) zero = refl
opposite_in (x ∷ xs) (suc place) = opposite_in xs place

opposite_at : (a : ArrayValue) (k : ℕ) (index : List ℕ) → rotation_at (opposite a) k index ≡ neg_ℤ (rotation_at a k index)
opposite_at a k index =
    ⊎_elim
    (λ one. rw one (opposite_in a.ravel 0))
    (λ many. rw many (opposite_in a.ravel (place_of a.shape (remove index k))))
    (cases_Bool (has_one_element a.shape))

same_line : (a : ArrayValue) (k i : ℕ) (index : List ℕ) → rotation_at a k (slice_set index k i) ≡ rotation_at a k index
same_line a k i index = ap (λ others. number_of (if has_one_element a.shape then only_element a else element_at a others)) (others_stay index k i)

pub rotate_back : Places → ReplacedLaw → (a b c : ArrayValue) (axis : Axis) → IsArray b → Gives (rotate_row a b axis) c → Gives (rotate_row (opposite a) c axis) b
rotate_back places replaced a b c axis array is =
    let k = axis_of axis (rank_of b) in
    let n = slice_index b.shape k in
    let turn = λ (z : ArrayValue) (index : List ℕ). along_axis k (rotated_index (rotation_at z k index) n) index in
    let element : List ℕ → Elem = λ index. element_at b (turn a index) in
    let parts = given (rotate_row a b axis).checks b.shape b.kind element c is in
    let passed : HavePassed (rotate_row (opposite a) b axis).checks = (parts.0.0, (parts.0.1.0, (parts.0.1.1.0, (refl, tt)))) in
    let turned = array_by b.shape b.kind element in
    let P : ArrayValue → Type 0 = λ z. Gives (rotate_row (opposite a) z axis) b in
    subst P (sym parts.1)
    (gives_array places (rotate_row (opposite a) b axis).checks b.shape b.kind (λ index. element_at turned (turn (opposite a) index)) b array passed refl refl
    (λ index inside.
    let r = rotation_at a k index in
    let back : List ℕ = along_axis k (rotated_index (neg_ℤ r) n) index in
    let lawful : IsIndexOf b.shape back = along_lawful replaced b.shape index k (rotated_index (neg_ℤ r) n) inside (rotated_within (neg_ℤ r) n) in
    let first : turn (opposite a) index ≡ back = ap (λ z. along_axis k (rotated_index z n) index) (opposite_at a k index) in
    let second : turn a back ≡ along_axis k (rotated_index r n) back = ap (λ z. along_axis k (rotated_index z n) back) (same_line a k (rotated_index (neg_ℤ r) n (slice_index index k)) index) in
    ap (element_at turned) first ∙ element_by places b.shape b.kind element back lawful
    ∙ ap (element_at b) (second ∙ along_back b.shape index k (rotated_index (neg_ℤ r) n) (rotated_index r n) inside (rotated_back r n))))
