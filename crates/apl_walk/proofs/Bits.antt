-- The ones among truth values, and the elements at them.
use Rattle.std.proofs.Common.{◌≡◌, ℕ, zero, suc, ◌+◌, ◌-◌, ◌*◌, ◌<◌, ◌≤◌, Bool, true, false, List, [], ◌∷◌, ◌++◌, length, slice_index, slice_index_or, slice_set, refl, sym, ap, ◌∙◌, arith, inl, inr}
use Rattle.std.proofs.lemmas.Bool.{cases_lt, true≢false}
use Rattle.std.proofs.lemmas.List.{get_or-set_same, get_or-set_other, get_or_append_left, get_or-append_right}
use Rattle.apl_walk.specs.Ones.{one_of, one_index, ones_before, HasOnes, HasNext}
use mir.Val.{bool_byte}

pub one_most : (b : Bool) → one_of b ≤ 1
one_most true = omega arith
one_most false = omega arith

pub ones_none : (bits : List Bool) → ones_before bits 0 ≡ 0
ones_none [] = refl
ones_none (b ∷ bits) = refl

ones_suc : (bits : List Bool) (i : ℕ) → i < length bits → ones_before bits (suc i) ≡ ones_before bits i + one_of (slice_index_or bits i false)
ones_suc [] i inside = absurd (omega (arith, inside))
ones_suc (b ∷ bits) zero inside = omega (arith, ones_none bits)
ones_suc (b ∷ bits) (suc i) inside = omega (arith, ones_suc bits i (omega (arith, inside)))

-- one more truth value
pub ones_more : (bits : List Bool) (i : ℕ) → i < length bits → ones_before bits (i + 1) ≡ ones_before bits i + one_of (slice_index_or bits i false)
ones_more bits i inside = let next : i + 1 ≡ suc i = omega arith in ap (ones_before bits) next ∙ ones_suc bits i inside

-- no more than there are truth values
pub ones_few : (bits : List Bool) (i : ℕ) → ones_before bits i ≤ i
ones_few [] i = omega arith
ones_few (b ∷ bits) zero = omega arith
ones_few (b ∷ bits) (suc i) = omega (arith, ones_few bits i, one_most b)

-- no more than there are in all
ones_within : (bits : List Bool) (i : ℕ) → ones_before bits i ≤ ones_before bits (length bits)
ones_within [] i = omega arith
ones_within (b ∷ bits) zero = omega arith
ones_within (b ∷ bits) (suc i) = omega (arith, ones_within bits i)

-- and fewer, where one more comes
pub ones_below : (bits : List Bool) (i : ℕ) → i < length bits → slice_index_or bits i false ≡ true → ones_before bits i < ones_before bits (length bits)
ones_below bits i inside one = omega (arith, ones_more bits i inside, ap one_of one, ones_within bits (i + 1))

-- as many ones are left as many indexes, or fewer
pub ones_left : (bits : List Bool) (i n : ℕ) → 0 < n → ones_before bits i + n ≤ ones_before bits (length bits) → i + n ≤ length bits
ones_left [] i n some fit = absurd (omega (arith, some, fit))
ones_left (b ∷ bits) zero n some fit = omega (arith, fit, ones_few bits (length bits), one_most b)
ones_left (b ∷ bits) (suc i) n some fit = omega (arith, ones_left bits i n some (omega (arith, fit)))

-- the index of the one that comes next, where it is one
pub index_there : (bits : List Bool) (i : ℕ) → i < length bits → slice_index_or bits i false ≡ true → one_index bits (ones_before bits i) ≡ i
index_there [] i inside one = absurd (omega (arith, inside))
index_there (true ∷ bits) zero inside one = refl
index_there (false ∷ bits) zero inside one = absurd (true≢false (sym one))
index_there (true ∷ bits) (suc i) inside one =
    let more : 1 + ones_before bits i ≡ suc (ones_before bits i) = omega arith in
    ap (one_index (true ∷ bits)) more ∙ ap suc (index_there bits i (omega (arith, inside)) one)
index_there (false ∷ bits) (suc i) inside one =
    let same : 0 + ones_before bits i ≡ ones_before bits i = omega arith in
    ap (one_index (false ∷ bits)) same ∙ ap suc (index_there bits i (omega (arith, inside)) one)

pub index_within : (bits : List Bool) (n : ℕ) → n < ones_before bits (length bits) → one_index bits n < length bits
index_within [] n below = absurd (omega (arith, below))
index_within (false ∷ bits) n below = omega (arith, index_within bits n (omega (arith, below)))
index_within (true ∷ bits) zero below = omega arith
index_within (true ∷ bits) (suc n) below = omega (arith, index_within bits n (omega (arith, below)))

-- what a truth value is as a number
byte_is : (b : Bool) → bool_byte b ≡ one_of b
byte_is true = refl
byte_is false = refl

pub bytes_more : (bits : List Bool) (i : ℕ) → i < length bits → ones_before bits (i + 1) ≡ ones_before bits i + bool_byte (slice_index_or bits i false)
bytes_more bits i inside = omega (arith, ones_more bits i inside, byte_is (slice_index_or bits i false))

pub byte_most : (b : Bool) → bool_byte b ≤ 1
byte_most true = omega arith
byte_most false = omega arith

-- one more number behind others
pub push_each : (xs : List ℕ) (x n : ℕ) (f : ℕ → ℕ) → length xs ≡ n → ((j : ℕ) → j < n → slice_index xs j ≡ f j) → x ≡ f n
    → (j : ℕ) → j < n + 1 → slice_index (xs ++ x ∷ []) j ≡ f j
push_each xs x n f len same last j below =
    elim (cases_lt j n) [
      | inl early ↦ get_or_append_left xs (x ∷ []) 0 j (omega (arith, early, len)) ∙ same j early
      | inr late ↦
          let none : j - n ≡ 0 = omega (arith, late, below) in
          let here : n ≡ j = omega (arith, late, below) in
          get_or-append_right xs (x ∷ []) n j 0 len late ∙ ap (slice_index (x ∷ [])) none ∙ last ∙ ap f here
    ]

-- ---- the elements at the ones

-- the element at one more index is written, and it is kept if that is a one
pub one_written : {T : Type 0} (bits : List Bool) (line room : List T) (stride i done : ℕ) (x : T) → i < length bits → done < length room
    → ((d : T) → x ≡ slice_index_or line (i * stride) d) → HasOnes bits line stride i done room
    → HasOnes bits line stride (i + 1) (done + bool_byte (slice_index_or bits i false)) (slice_set room done x)
one_written {T} bits line room stride i done x inside free read before = by_bit (slice_index_or bits i false) refl
  where
    earlier : (k : ℕ) (d : T) → k < done → slice_index_or (slice_set room done x) k d ≡ slice_index_or room k d
    earlier k d below = get_or-set_other room done k x d (λ same. omega (arith, same, below))

    by_bit : (b : Bool) → slice_index_or bits i false ≡ b → HasOnes bits line stride (i + 1) (done + bool_byte b) (slice_set room done x)
    by_bit false is =
        let same : ones_before bits (i + 1) ≡ ones_before bits i = omega (arith, ones_more bits i inside, ap one_of is) in
        record {
          few = omega (arith, same, before.few);
          each = λ k d below.
              let there : ones_before bits i - done + k ≡ ones_before bits (i + 1) - (done + 0) + k = omega (arith, same) in
              earlier k d (omega (arith, below)) ∙ before.each k d (omega (arith, below)) ∙ ap (λ n. slice_index_or line (one_index bits n * stride) d) there;
        }
    by_bit true is =
        let more : ones_before bits (i + 1) ≡ ones_before bits i + 1 = omega (arith, ones_more bits i inside, ap one_of is) in
        record {
          few = omega (arith, more, before.few);
          each = λ k d below.
              let there : ones_before bits i - done + k ≡ ones_before bits (i + 1) - (done + 1) + k = omega (arith, more) in
              ◌∙◌ (elim (cases_lt k done) [
                | inl early ↦ earlier k d early ∙ before.each k d early
                | inr late ↦
                    let last : k ≡ done = omega (arith, late, below) in
                    let next : ones_before bits i ≡ ones_before bits i - done + k = omega (arith, last, before.few) in
                    ap (λ n. slice_index_or (slice_set room done x) n d) last ∙ get_or-set_same room done x d free ∙ read d
                    ∙ ap (λ n. slice_index_or line (n * stride) d) (sym (index_there bits i inside is)) ∙ ap (λ n. slice_index_or line (one_index bits n * stride) d) next
              ]) (ap (λ n. slice_index_or line (one_index bits n * stride) d) there);
        }

-- the next element is written at one more index, which is kept if that is a one
pub next_written : {T : Type 0} (bits : List Bool) (line room : List T) (stride from k : ℕ) (x : T) → k < length room
    → (slice_index_or bits (from + k) false ≡ true → (d : T) → x ≡ slice_index_or line (ones_before bits (from + k) * stride) d)
    → HasNext bits line stride from k room → HasNext bits line stride from (k + 1) (slice_set room k x)
next_written bits line room stride from k x free read before = record {
  each = λ j d below is.
      elim (cases_lt j k) [
        | inl early ↦ get_or-set_other room k j x d (λ same. omega (arith, same, early)) ∙ before.each j d early is
        | inr late ↦
            let last : j ≡ k = omega (arith, late, below) in
            let here : slice_index_or bits (from + k) false ≡ true = ap (λ n. slice_index_or bits (from + n) false) (sym last) ∙ is in
            ap (λ n. slice_index_or (slice_set room k x) n d) last ∙ get_or-set_same room k x d free ∙ read here d
            ∙ ap (λ n. slice_index_or line (ones_before bits (from + n) * stride) d) (sym last)
      ];
}
