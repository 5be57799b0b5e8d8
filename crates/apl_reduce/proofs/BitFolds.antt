-- Folds of truth values, one number more on the right.
use Rattle.std.proofs.Common.{◌≡◌, ℕ, zero, suc, ℤ, pos, negsuc, ◌+◌, ◌*◌, ◌<◌, Bool, true, false, FitsSigned, of_z, w64, bit_and, bit_or, List, map, Ok, refl, sym, ap, ◌∙◌, slice_index_or, arith}
use Rattle.std.specs.Prelude.{◌&&◌, ◌||◌, nat_eq}
use Rattle.std.proofs.Math.ListN.{get_or-map}
use Rattle.std.proofs.lemmas.Int.{ints}
use Rattle.std.proofs.lemmas.Nat.{and_le_l, le_or_l, le_or_r}
use Rattle.apl_array.specs.declared.array.Elem.{Elem}
use Rattle.apl_array.specs.declared.array.Elem.TheVariants.{Int}
use Rattle.apl_array.specs.declared.function.ScalarFunction.TheVariants.{And, Or}
use Rattle.apl_scalar.specs.Scalar.{bit, dyadic_of}
use Rattle.apl_reduce.specs.BitFolds.{AreRunBits}
use Rattle.apl_reduce.specs.Folded.{number_step, folded_onto}
use Rattle.apl_reduce.specs.Items.{item_in}
use Rattle.apl_reduce.proofs.Folds.{two_runs, two_halves}

-- a number without a bit above the lowest
pub is_low : (x : ℤ) → FitsSigned w64 x → of_z w64 x < 2 → x ≡ bit (nat_eq (of_z w64 x) 1)
is_low (pos zero) fits low = refl
is_low (pos (suc zero)) fits low = refl
is_low (pos (suc (suc n))) fits low = absurd (omega (arith, low))
is_low (negsuc n) fits low = absurd (omega (arith, ints, fits, low))

and_bits : (c b : Bool) → dyadic_of And (Int (bit c)) (Int (bit b)) ≡ Ok (bit (c && b))
and_bits true true = refl
and_bits true false = refl
and_bits false true = refl
and_bits false false = refl

or_bits : (c b : Bool) → dyadic_of Or (Int (bit c)) (Int (bit b)) ≡ Ok (bit (c || b))
or_bits true true = refl
or_bits true false = refl
or_bits false true = refl
or_bits false false = refl

and_is : (all m : ℕ) (b : Bool) → all < 2 → m < 2 → (nat_eq all 1 && (nat_eq m 1 && b)) ≡ (nat_eq (bit_and all m) 1 && b)
and_is zero zero b low least = refl
and_is zero (suc zero) b low least = refl
and_is (suc zero) zero b low least = refl
and_is (suc zero) (suc zero) b low least = refl
and_is (suc (suc n)) m b low least = absurd (omega (arith, low))
and_is all (suc (suc n)) b low least = absurd (omega (arith, least))

or_is : (any m : ℕ) (b : Bool) → any < 2 → m < 2 → (nat_eq any 1 || (nat_eq m 1 || b)) ≡ (nat_eq (bit_or any m) 1 || b)
or_is zero zero b low least = refl
or_is zero (suc zero) b low least = refl
or_is (suc zero) zero b low least = refl
or_is (suc zero) (suc zero) b low least = refl
or_is (suc (suc n)) m b low least = absurd (omega (arith, low))
or_is any (suc (suc n)) b low least = absurd (omega (arith, least))

and_low : (all m : ℕ) → all < 2 → bit_and all m < 2
and_low all m low = omega (arith, low, and_le_l all m)

pub no_bits : (numbers : List ℤ) (first : ℕ) → AreRunBits numbers first 0 1 0
no_bits numbers first = record { low = omega arith; ands = λ few b. refl; ors = λ few b. refl }

module _ (numbers : List ℤ) (first k : ℕ) where
  abbrev item : ℕ → Elem
  item = item_in (map Int numbers)

  abbrev number : ℤ
  number = slice_index_or numbers (first + k) (pos 0)

  is_number : item (first + k) ≡ Int number
  is_number = get_or-map Int numbers (first + k) (pos 0)

  more : k + 1 ≡ k + suc zero
  more = omega arith

  module _ (all any : ℕ) (fits : FitsSigned w64 number) (before : AreRunBits numbers first k all any) where
    abbrev m : ℕ
    m = of_z w64 number

    pub one_bit_more : AreRunBits numbers first (k + 1) (bit_and all m) (bit_or any m)
    one_bit_more = record {
      low = and_low all m before.low;
      ands = λ few b.
          let old : any < 2 = omega (arith, few, le_or_l any m) in
          let here : m < 2 = omega (arith, few, le_or_r any m) in
          ap (λ n. folded_onto And item first n (Ok (bit b))) more ∙ two_runs And item first k (suc zero) (Ok (bit b))
          ∙ ap (folded_onto And item first k) (ap (λ x. number_step And x (Ok (bit b))) is_number ∙ ap (λ z. dyadic_of And (Int z) (Int (bit b))) (is_low number fits here) ∙ and_bits (nat_eq m 1) b)
          ∙ before.ands old (nat_eq m 1 && b)
          ∙ ap (λ c. Ok (bit c)) (and_is all m b before.low here);
      ors = λ few b.
          let old : any < 2 = omega (arith, few, le_or_l any m) in
          let here : m < 2 = omega (arith, few, le_or_r any m) in
          ap (λ n. folded_onto Or item first n (Ok (bit b))) more ∙ two_runs Or item first k (suc zero) (Ok (bit b))
          ∙ ap (folded_onto Or item first k) (ap (λ x. number_step Or x (Ok (bit b))) is_number ∙ ap (λ z. dyadic_of Or (Int z) (Int (bit b))) (is_low number fits here) ∙ or_bits (nat_eq m 1) b)
          ∙ before.ors old (nat_eq m 1 || b)
          ∙ ap (λ c. Ok (bit c)) (or_is any m b old here);
    }

-- ---- both halves

module _ (numbers : List ℤ) (first half all any all_beyond any_beyond : ℕ) (low : AreRunBits numbers first half all any) (high : AreRunBits numbers (first + half) half all_beyond any_beyond) where
  pub joined_bits : AreRunBits numbers first (2 * half) (bit_and all all_beyond) (bit_or any any_beyond)
  joined_bits = record {
    low = and_low all all_beyond low.low;
    ands = λ few b.
        let front : any < 2 = omega (arith, few, le_or_l any any_beyond) in
        let back : any_beyond < 2 = omega (arith, few, le_or_r any any_beyond) in
        two_halves And (item_in (map Int numbers)) first half (Ok (bit b))
        ∙ ap (folded_onto And (item_in (map Int numbers)) first half) (high.ands back b)
        ∙ low.ands front (nat_eq all_beyond 1 && b)
        ∙ ap (λ c. Ok (bit c)) (and_is all all_beyond b low.low high.low);
    ors = λ few b.
        let front : any < 2 = omega (arith, few, le_or_l any any_beyond) in
        let back : any_beyond < 2 = omega (arith, few, le_or_r any any_beyond) in
        two_halves Or (item_in (map Int numbers)) first half (Ok (bit b))
        ∙ ap (folded_onto Or (item_in (map Int numbers)) first half) (high.ors back b)
        ∙ low.ors front (nat_eq any_beyond 1 || b)
        ∙ ap (λ c. Ok (bit c)) (or_is any any_beyond b front back);
  }

-- ---- the folds onto a bit

module _ (numbers : List ℤ) (first count all any : ℕ) (are : AreRunBits numbers first count all any) (few : any < 2) (total : ℤ) (fits : FitsSigned w64 total) (low : of_z w64 total < 2) where
  abbrev b : Bool
  b = nat_eq (of_z w64 total) 1

  is_bit : total ≡ bit b
  is_bit = is_low total fits low

  ands : folded_onto And (item_in (map Int numbers)) first count (Ok total) ≡ Ok (bit (nat_eq all 1 && b))
  ands = ap (λ z. folded_onto And (item_in (map Int numbers)) first count (Ok z)) is_bit ∙ are.ands few b

  ors : folded_onto Or (item_in (map Int numbers)) first count (Ok total) ≡ Ok (bit (nat_eq any 1 || b))
  ors = ap (λ z. folded_onto Or (item_in (map Int numbers)) first count (Ok z)) is_bit ∙ are.ors few b

  pub and_of_ones : all ≡ 1 → folded_onto And (item_in (map Int numbers)) first count (Ok total) ≡ Ok total
  and_of_ones ones = ands ∙ ap (λ n. Ok (bit (nat_eq n 1 && b))) ones ∙ ap (λ z. Ok z) (sym is_bit)

  pub and_with_zero : all ≡ 0 → folded_onto And (item_in (map Int numbers)) first count (Ok total) ≡ Ok (pos 0)
  and_with_zero none = ands ∙ ap (λ n. Ok (bit (nat_eq n 1 && b))) none

  pub or_with_one : any ≡ 1 → folded_onto Or (item_in (map Int numbers)) first count (Ok total) ≡ Ok (pos 1)
  or_with_one one = ors ∙ ap (λ n. Ok (bit (nat_eq n 1 || b))) one

  pub or_of_zeros : any ≡ 0 → folded_onto Or (item_in (map Int numbers)) first count (Ok total) ≡ Ok total
  or_of_zeros zeros = ors ∙ ap (λ n. Ok (bit (nat_eq n 1 || b))) zeros ∙ ap (λ z. Ok z) (sym is_bit)
