-- Index lists in which the index along one axis is changed.
use Rattle.std.proofs.Common.{◌≡◌, ℕ, zero, suc, ◌<◌, ◌≤◌, List, [], ◌∷◌, length, slice_index, refl, ap, ◌∙◌, ⊎_elim, arith}
use Rattle.std.specs.Prelude.{slice_set, remove}
use Rattle.std.proofs.lemmas.Bool.{cases_lt}
use Rattle.std.proofs.lemmas.List.{get_or-set_same, set-set, set-get_or, set_past}
use Rattle.apl_array.specs.Shape.{IsIndexOf}
use Rattle.apl_struct.specs.Gathering.{along_axis}

-- an index put in the place of another is an index where it is below the length of the axis
abbrev pub ReplacedLaw : Type 0
ReplacedLaw = (shape index : List ℕ) (k i : ℕ) → IsIndexOf shape index → i < slice_index shape k → IsIndexOf shape (slice_set index k i)

pub along_lawful : ReplacedLaw → (shape index : List ℕ) (k : ℕ) (f : ℕ → ℕ) → IsIndexOf shape index
    → ((i : ℕ) → i < slice_index shape k → f i < slice_index shape k) → IsIndexOf shape (along_axis k f index)
along_lawful replaced shape index k f inside within =
    ⊎_elim
    (λ some. replaced shape index k (f (slice_index index k)) inside (within (slice_index index k) (inside.below k some)))
    (λ none. rw (set_past index k (f (slice_index index k)) (omega (arith, none, inside.len))) inside)
    (cases_lt k (length shape))

-- a change that undoes another
pub along_back : (shape index : List ℕ) (k : ℕ) (f g : ℕ → ℕ) → IsIndexOf shape index
    → ((i : ℕ) → i < slice_index shape k → g (f i) ≡ i) → along_axis k g (along_axis k f index) ≡ index
along_back shape index k f g inside undone =
    let i = slice_index index k in
    ⊎_elim
    (λ some.
    let long : k < length index = omega (arith, some, inside.len) in
    ap (λ j. slice_set (slice_set index k (f i)) k (g j)) (get_or-set_same index k (f i) 0 long)
    ∙ set-set index k (f i) (g (f i)) ∙ ap (slice_set index k) (undone i (inside.below k some)) ∙ set-get_or index k 0)
    (λ none.
    let short : length index ≤ k = omega (arith, none, inside.len) in
    let same : slice_set index k (f i) ≡ index = set_past index k (f i) short in
    ap (along_axis k g) same ∙ set_past index k (g i) short)
    (cases_lt k (length shape))

-- the other indexes stay
pub others_stay : (index : List ℕ) (k i : ℕ) → remove (slice_set index k i) k ≡ remove index k
others_stay [] k i = refl
others_stay (j ∷ index) zero i = refl
others_stay (j ∷ index) (suc k) i = ap (λ rest. j ∷ rest) (others_stay index k i)
