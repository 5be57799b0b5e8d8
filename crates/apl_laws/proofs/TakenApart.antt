-- Parts of vectors: what is taken, dropped and joined.
use Rattle.std.proofs.Common.{◌≡◌, ℕ, ℤ, pos, ◌+◌, ◌-◌, ◌<◌, ◌≤◌, true, List, [], ◌∷◌, map, slice_index, refl, sym, ap, subst, ◌∙◌, ⊎_elim, arith}
use Rattle.std.specs.Prelude.{Bool, false, nat_abs, nat_lt, not, ◌&&◌, ◌||◌, if◌then◌else◌}
use Rattle.std.proofs.lemmas.Bool.{cases_lt, lt-ltb, le-ltb}
use Rattle.apl_array.specs.declared.array.Elem.{Elem}
use Rattle.apl_array.specs.declared.array.Elem.TheVariants.{Int}
use Rattle.apl_array.specs.declared.array.Kind.{Kind}
use Rattle.apl_array.specs.declared.axis.Axis.TheVariants.{Last}
use Rattle.apl_array.specs.declared.array.Kind.TheVariants.{Number}
use Rattle.apl_array.specs.Shape.{IsShape}
use Rattle.apl_array.specs.Array.{ArrayValue, IsArray, element_in, element_at}
use Rattle.apl_answer.specs.Arguments.{has_elements, is_same_kind, numbers_of}
use Rattle.apl_answer.specs.Rows.{HavePassed}
use Rattle.apl_struct.specs.Gathering.{element_or_fill, gathered_row, filled_row}
use Rattle.apl_struct.specs.Building.{shape_of_row}
use Rattle.apl_struct.specs.Taking.{taking_checks, take_source, take_row, dropped_shape, drop_source, drop_row}
use Rattle.apl_struct.specs.Joining.{catenated_element, joined_kind, catenate_row}
use Rattle.apl_laws.specs.Giving.{Gives}
use Rattle.apl_laws.proofs.Given.{Places}
use Rattle.apl_laws.proofs.Lists.{vector, is_vector, by_index, at_index, vector_given, gives_vector}
use Rattle.apl_laws.proofs.Shapes.{ShapeLaw, own_kind, or_true}

-- the first m by one function, the others by another
abbrev pub joined : (m : ℕ) (f g : ℕ → Elem) → ℕ → Elem
joined m f g i = if nat_lt i m then f i else g (i - m)

same_either : (test : Bool) (kind : Kind) → (if test then kind else kind) ≡ kind
same_either true kind = refl
same_either false kind = refl

whole_element : (m : ℕ) (f : ℕ → Elem) (i : ℕ) → joined m f (λ j. f (j + m)) i ≡ f i
whole_element m f i =
    ⊎_elim
    (λ first. rw (lt-ltb i m first) refl)
    (λ second. let back : i - m + m ≡ i = omega arith in rw (le-ltb i m second) (ap f back))
    (cases_lt i m)

module _ (places : Places) where
  -- ---- taken and dropped

  taken_element : (n : ℕ) (kind : Kind) (f : ℕ → Elem) (m i : ℕ) → m ≤ n → i < m
      → element_or_fill (vector n kind f) (take_source (pos m ∷ []) (n ∷ []) (i ∷ [])) ≡ f i
  taken_element n kind f m i fits inside =
      let below : i < n = omega arith in
      rw (lt-ltb i n below) (at_index places n kind f i below)

  pub taken : (a : ArrayValue) (n m : ℕ) (kind : Kind) (f : ℕ → Elem) (t : ArrayValue) → numbers_of a ≡ pos m ∷ [] → m ≤ n
      → Gives (take_row a (vector n kind f)) t → t ≡ vector m kind f
  taken a n m kind f t numbers fits is =
      let c = vector n kind f in
      let P : List ℤ → Type 0 = λ ns. Gives (filled_row (taking_checks a c (map nat_abs ns)) (map nat_abs ns) c (take_source ns c.shape)) t in
      vector_given places (taking_checks a c (m ∷ [])) m kind (λ index. element_or_fill c (take_source (pos m ∷ []) (n ∷ []) index)) f t (subst P numbers is)
      (λ i inside. taken_element n kind f m i fits inside)

  dropped_element : (n : ℕ) (kind : Kind) (f : ℕ → Elem) (m i : ℕ) → m ≤ n → i < n - m
      → element_at (vector n kind f) (drop_source (pos m ∷ []) (i ∷ [])) ≡ f (i + m)
  dropped_element n kind f m i fits inside = at_index places n kind f (i + m) (omega arith)

  pub dropped : (a : ArrayValue) (n m : ℕ) (kind : Kind) (f : ℕ → Elem) (d : ArrayValue) → numbers_of a ≡ pos m ∷ [] → m ≤ n
      → Gives (drop_row a (vector n kind f)) d → d ≡ vector (n - m) kind (λ i. f (i + m))
  dropped a n m kind f d numbers fits is =
      let c = vector n kind f in
      let P : List ℤ → Type 0 = λ ns. Gives (gathered_row (taking_checks a c (dropped_shape ns c.shape)) (dropped_shape ns c.shape) c (drop_source ns)) d in
      vector_given places (taking_checks a c ((n - m) ∷ [])) (n - m) kind (λ index. element_at c (drop_source (pos m ∷ []) index)) (λ i. f (i + m)) d (subst P numbers is)
      (λ i inside. dropped_element n kind f m i fits inside)

  -- ---- joined

  joined_element : (m n : ℕ) (kind : Kind) (f g : ℕ → Elem) (i : ℕ) → i < m + n
      → catenated_element 1 0 m (vector m kind f) (vector n kind g) (i ∷ []) ≡ joined m f g i
  joined_element m n kind f g i inside =
      ⊎_elim
      (λ first. rw (lt-ltb i m first) (at_index places m kind f i first))
      (λ second. let within : i - m < n = omega arith in rw (le-ltb i m second) (at_index places n kind g (i - m) within))
      (cases_lt i m)

  joined_kind_is : (m n : ℕ) (kind : Kind) (f g : ℕ → Elem) → joined_kind (vector m kind f) (vector n kind g) ≡ kind
  joined_kind_is m n kind f g =
      same_either (has_elements (vector m kind f) || not (has_elements (vector n kind g))) kind

  pub join_given : (m n : ℕ) (kind : Kind) (f g : ℕ → Elem) (c : ArrayValue) → Gives (catenate_row (vector m kind f) (vector n kind g) Last) c
      → c ≡ vector (m + n) kind (joined m f g)
  join_given m n kind f g c is =
      let a = vector m kind f in
      let b = vector n kind g in
      vector_given places (catenate_row a b Last).checks (m + n) (joined_kind a b) (catenated_element 1 0 m a b) (joined m f g) c is (joined_element m n kind f g)
      ∙ ap (λ k. vector (m + n) k (joined m f g)) (joined_kind_is m n kind f g)

  pub gives_join : ShapeLaw → (m n : ℕ) (kind : Kind) (f g : ℕ → Elem) → IsShape ((m + n) ∷ [])
      → Gives (catenate_row (vector m kind f) (vector n kind g) Last) (vector (m + n) kind (joined m f g))
  gives_join decided m n kind f g lawful =
      let a = vector m kind f in
      let b = vector n kind g in
      let passed : HavePassed (catenate_row a b Last).checks =
      (refl, (refl, (refl, (or_true (not (has_elements a && has_elements b)) (is_same_kind kind kind) (own_kind kind), ((decided ((m + n) ∷ [])).1 lawful, tt))))) in
      let P : Kind → Type 0 = λ k. Gives (catenate_row a b Last) (vector (m + n) k (joined m f g)) in
      subst P (joined_kind_is m n kind f g)
      (gives_vector places (catenate_row a b Last).checks (m + n) (joined_kind a b) (catenated_element 1 0 m a b) (joined m f g) passed (joined_element m n kind f g))

  -- ---- the whole from its parts

  parts_join : ShapeLaw → (n m : ℕ) (kind : Kind) (f : ℕ → Elem) → m ≤ n → IsShape (n ∷ [])
      → Gives (catenate_row (vector m kind f) (vector (n - m) kind (λ i. f (i + m))) Last) (vector n kind f)
  parts_join decided n m kind f fits lawful =
      let rest : ℕ → Elem = λ i. f (i + m) in
      let sum : m + (n - m) ≡ n = omega arith in
      let P : ℕ → Type 0 = λ k. IsShape (k ∷ []) in
      let Q : ArrayValue → Type 0 = Gives (catenate_row (vector m kind f) (vector (n - m) kind rest) Last) in
      let same : vector (m + (n - m)) kind (joined m f rest) ≡ vector n kind f =
      ap (λ k. vector k kind (joined m f rest)) sum ∙ by_index places n kind (λ index. joined m f rest (slice_index index 0)) f (λ i inside. whole_element m f i) in
      subst Q same (gives_join decided m (n - m) kind f rest (subst P (sym sum) lawful))

  pub take_drop_join : ShapeLaw → (k b t d : ArrayValue) (n m : ℕ) → IsArray b → b.shape ≡ n ∷ [] → numbers_of k ≡ pos m ∷ [] → m ≤ n
      → Gives (take_row k b) t → Gives (drop_row k b) d → Gives (catenate_row t d Last) b
  take_drop_join decided k b t d n m array shape numbers fits take_is drop_is =
      let f = element_in b in
      let same : vector n b.kind f ≡ b = is_vector places b n array shape in
      let P : ArrayValue → Type 0 = λ z. Gives (take_row k z) t in
      let Q : ArrayValue → Type 0 = λ z. Gives (drop_row k z) d in
      let S : List ℕ → Type 0 = IsShape in
      let front : t ≡ vector m b.kind f = taken k n m b.kind f t numbers fits (subst P (sym same) take_is) in
      let back : d ≡ vector (n - m) b.kind (λ i. f (i + m)) = dropped k n m b.kind f d numbers fits (subst Q (sym same) drop_is) in
      let whole = parts_join decided n m b.kind f fits (subst S shape array.shape) in
      rw (front, back) (subst (Gives (catenate_row (vector m b.kind f) (vector (n - m) b.kind (λ i. f (i + m))) Last)) same whole)

  -- ---- the parts of a whole

  joined_first : (m n : ℕ) (f g : ℕ → Elem) (i : ℕ) → i < m → joined m f g i ≡ f i
  joined_first m n f g i first = rw (lt-ltb i m first) refl

  joined_second : (m : ℕ) (f g : ℕ → Elem) (i : ℕ) → joined m f g (i + m) ≡ g i
  joined_second m f g i =
      let beyond : m ≤ i + m = omega arith in
      let back : i + m - m ≡ i = omega arith in
      rw (le-ltb (i + m) m beyond) (ap g back)

  pub take_of_join : ShapeLaw → (m n : ℕ) (kind : Kind) (f g : ℕ → Elem) (c s : ArrayValue) → IsShape (m ∷ [])
      → Gives (catenate_row (vector m kind f) (vector n kind g) Last) c → Gives (shape_of_row (vector m kind f)) s → Gives (take_row s c) (vector m kind f)
  take_of_join decided m n kind f g c s lawful join_is shape_is =
      let h = joined m f g in
      let length_at : ℕ → Elem = λ i. Int (pos (slice_index (m ∷ []) i)) in
      let shape : s ≡ vector 1 Number length_at = vector_given places [] 1 Number (λ index. length_at (slice_index index 0)) length_at s shape_is (λ i inside. refl) in
      let whole : c ≡ vector (m + n) kind h = join_given m n kind f g c join_is in
      let passed : HavePassed (take_row (vector 1 Number length_at) (vector (m + n) kind h)).checks = (refl, (refl, (refl, (refl, ((decided (m ∷ [])).1 lawful, tt))))) in
      rw (shape, whole)
      (gives_vector places (take_row (vector 1 Number length_at) (vector (m + n) kind h)).checks m kind
      (λ index. element_or_fill (vector (m + n) kind h) (take_source (pos m ∷ []) ((m + n) ∷ []) index)) f passed
      (λ i inside. taken_element (m + n) kind h m i (omega arith) inside ∙ joined_first m n f g i inside))

  pub drop_of_join : ShapeLaw → (m n : ℕ) (kind : Kind) (f g : ℕ → Elem) (c s : ArrayValue) → IsShape (n ∷ [])
      → Gives (catenate_row (vector m kind f) (vector n kind g) Last) c → Gives (shape_of_row (vector m kind f)) s → Gives (drop_row s c) (vector n kind g)
  drop_of_join decided m n kind f g c s lawful join_is shape_is =
      let h = joined m f g in
      let length_at : ℕ → Elem = λ i. Int (pos (slice_index (m ∷ []) i)) in
      let shape : s ≡ vector 1 Number length_at = vector_given places [] 1 Number (λ index. length_at (slice_index index 0)) length_at s shape_is (λ i inside. refl) in
      let whole : c ≡ vector (m + n) kind h = join_given m n kind f g c join_is in
      let left : m + n - m ≡ n = omega arith in
      let S : ℕ → Type 0 = λ k. IsShape (k ∷ []) in
      let row = drop_row (vector 1 Number length_at) (vector (m + n) kind h) in
      let passed : HavePassed row.checks = (refl, (refl, (refl, (refl, ((decided ((m + n - m) ∷ [])).1 (subst S (sym left) lawful), tt))))) in
      let P : ℕ → Type 0 = λ k. Gives row (vector k kind g) in
      rw (shape, whole)
      (subst P left
      (gives_vector places row.checks (m + n - m) kind
      (λ index. element_at (vector (m + n) kind h) (drop_source (pos m ∷ []) index)) g passed
      (λ i inside. dropped_element (m + n) kind h m i (omega arith) inside ∙ joined_second m f g i)))

  -- ---- the same of all arrays of one axis

  join_of_vectors : (a b c : ArrayValue) (m n : ℕ) → IsArray a → IsArray b → a.shape ≡ m ∷ [] → b.shape ≡ n ∷ [] → a.kind ≡ b.kind → Gives (catenate_row a b Last) c
      → Gives (catenate_row (vector m a.kind (element_in a)) (vector n a.kind (element_in b)) Last) c
  join_of_vectors a b c m n array other shape long kind is =
      let left : a ≡ vector m a.kind (element_in a) = sym (is_vector places a m array shape) in
      let right : b ≡ vector n a.kind (element_in b) = sym (is_vector places b n other long) ∙ ap (λ k. vector n k (element_in b)) (sym kind) in
      let P : ArrayValue → Type 0 = λ x. Gives (catenate_row x b Last) c in
      let Q : ArrayValue → Type 0 = λ y. Gives (catenate_row (vector m a.kind (element_in a)) y Last) c in
      subst Q right (subst P left is)

  shape_of_vector : (a s : ArrayValue) (m : ℕ) → IsArray a → a.shape ≡ m ∷ [] → Gives (shape_of_row a) s → Gives (shape_of_row (vector m a.kind (element_in a))) s
  shape_of_vector a s m array shape is = let P : ArrayValue → Type 0 = λ x. Gives (shape_of_row x) s in subst P (sym (is_vector places a m array shape)) is

  lawful_length : (a : ArrayValue) (m : ℕ) → IsArray a → a.shape ≡ m ∷ [] → IsShape (m ∷ [])
  lawful_length a m array shape = let P : List ℕ → Type 0 = IsShape in subst P shape array.shape

  pub first_of_joined : ShapeLaw → (a b c s : ArrayValue) (m n : ℕ) → IsArray a → IsArray b → a.shape ≡ m ∷ [] → b.shape ≡ n ∷ [] → a.kind ≡ b.kind
      → Gives (catenate_row a b Last) c → Gives (shape_of_row a) s → Gives (take_row s c) a
  first_of_joined decided a b c s m n array other shape long kind join_is shape_is =
      let P : ArrayValue → Type 0 = Gives (take_row s c) in
      subst P (is_vector places a m array shape)
      (take_of_join decided m n a.kind (element_in a) (element_in b) c s (lawful_length a m array shape)
      (join_of_vectors a b c m n array other shape long kind join_is) (shape_of_vector a s m array shape shape_is))

  pub second_of_joined : ShapeLaw → (a b c s : ArrayValue) (m n : ℕ) → IsArray a → IsArray b → a.shape ≡ m ∷ [] → b.shape ≡ n ∷ [] → a.kind ≡ b.kind
      → Gives (catenate_row a b Last) c → Gives (shape_of_row a) s → Gives (drop_row s c) b
  second_of_joined decided a b c s m n array other shape long kind join_is shape_is =
      let right : vector n a.kind (element_in b) ≡ b = ap (λ k. vector n k (element_in b)) kind ∙ is_vector places b n other long in
      let P : ArrayValue → Type 0 = Gives (drop_row s c) in
      subst P right
      (drop_of_join decided m n a.kind (element_in a) (element_in b) c s (lawful_length b n other long)
      (join_of_vectors a b c m n array other shape long kind join_is) (shape_of_vector a s m array shape shape_is))
