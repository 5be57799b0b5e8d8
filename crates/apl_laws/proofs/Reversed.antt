-- Reversal twice.
use Rattle.std.proofs.Common.{◌≡◌, ℕ, ◌<◌, List, slice_index, refl, sym, ap, subst, ◌∙◌, arith}
use Rattle.apl_array.specs.declared.axis.Axis.{Axis}
use Rattle.apl_array.specs.declared.array.Elem.{Elem}
use Rattle.apl_array.specs.Axes.{axis_of}
use Rattle.apl_array.specs.Array.{ArrayValue, IsArray, element_at}
use Rattle.apl_answer.specs.Arguments.{rank_of}
use Rattle.apl_struct.specs.Gathering.{along_axis}
use Rattle.apl_struct.specs.Rearranging.{reversed_index, reverse_row}
use Rattle.apl_laws.specs.Giving.{Gives}
use Rattle.apl_laws.proofs.Given.{Places, array_by, given, element_by, gives_array}
use Rattle.apl_laws.proofs.AlongAxes.{ReplacedLaw, along_lawful, along_back}

reversed_within : (n i : ℕ) → i < n → reversed_index n i < n
reversed_within n i inside = omega arith

reversed_twice : (n i : ℕ) → i < n → reversed_index n (reversed_index n i) ≡ i
reversed_twice n i inside = omega arith

pub reverse_back : Places → ReplacedLaw → (b c : ArrayValue) (axis : Axis) → IsArray b → Gives (reverse_row b axis) c → Gives (reverse_row c axis) b
reverse_back places replaced b c axis array is =
    let k = axis_of axis (rank_of b) in
    let turn = along_axis k (reversed_index (slice_index b.shape k)) in
    let element : List ℕ → Elem = λ index. element_at b (turn index) in
    let checks = (reverse_row b axis).checks in
    let parts = given checks b.shape b.kind element c is in
    let turned = array_by b.shape b.kind element in
    let P : ArrayValue → Type 0 = λ a. Gives (reverse_row a axis) b in
    subst P (sym parts.1)
    (gives_array places checks b.shape b.kind (λ index. element_at turned (turn index)) b array parts.0 refl refl
    (λ index inside.
    element_by places b.shape b.kind element (turn index) (along_lawful replaced b.shape index k (reversed_index (slice_index b.shape k)) inside (reversed_within (slice_index b.shape k)))
    ∙ ap (element_at b) (along_back b.shape index k (reversed_index (slice_index b.shape k)) (reversed_index (slice_index b.shape k)) inside (reversed_twice (slice_index b.shape k)))))
