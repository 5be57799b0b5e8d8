-- Answers whose outcomes are numbers or LIMIT.
use Rattle.std.proofs.Common.{◌≡◌, ℕ, zero, suc, ◌+◌, ◌<◌, ◌≤◌, ℤ, List, map, Result, Ok, Err, refl, ap, sym, ◌∙◌, subst, inl, inr, ⊎_elim, arith}
use Rattle.std.specs.Prelude.{◌⊎◌}
use Rattle.std.specs.List.{range_with_len}
use Rattle.std.proofs.lemmas.Bool.{cases_lt}
use Rattle.std.proofs.lemmas.Simd.{map-map}
use Rattle.apl_array.specs.declared.array.Elem.{Elem}
use Rattle.apl_array.specs.declared.array.Elem.TheVariants.{Int}
use Rattle.apl_array.specs.declared.array.Kind.TheVariants.{Number}
use Rattle.apl_array.specs.Array.{number_array}
use Rattle.apl_array.specs.Shape.{IsIndexOf, count_of, place_of, index_at}
use Rattle.apl_pool.specs.declared.kernel.Fault.{Fault}
use Rattle.apl_pool.specs.declared.kernel.Fault.TheVariants.{Limit}
use Rattle.apl_answer.specs.declared.fault.OpFault.TheVariants.{Limit as Refused}
use Rattle.apl_answer.specs.Pointwise.{index_lists, collect_outcomes, shaped, answer_of}
use Rattle.apl_reduce.specs.Refusals.{IsRefusedOr}

-- the refusal for one reason is that for another
pub refused_as : {A F : Type 0} (refusal : F) (P Q : Type 0) (v : A) (r : Result A F) → (P → Q) → (Q → P) → IsRefusedOr refusal P v r → IsRefusedOr refusal Q v r
refused_as refusal P Q v r there back is = ⊎_elim (λ one. inl (there one.0, one.1)) (λ none. inr (λ q. none.0 (back q), none.1)) is

-- at one of n places from a on
abbrev pub IsAtSome : (ℕ → Type 0) → (a n : ℕ) → Type 0
IsAtSome P a n = (place : ℕ) × (a ≤ place) × (place < a + n) × P place

module _ (outcome : ℕ → Result Elem Fault) (Outside : ℕ → Type 0) (value : ℕ → ℤ) where
  abbrev Told : ℕ → Type 0
  Told place = IsRefusedOr Limit (Outside place) (Int (value place)) (outcome place)

  abbrev AllTold : (a n : ℕ) → Type 0
  AllTold a n = IsRefusedOr Limit (IsAtSome Outside a n) (map Int (map value (range_with_len a n))) (collect_outcomes (map outcome (range_with_len a n)))

  later : (a n : ℕ) → IsAtSome Outside (a + 1) n → IsAtSome Outside a (suc n)
  later a n w = (w.0, omega (arith, w.1), omega (arith, w.2), w.3)

  none_later : (a n : ℕ) → (Outside a → ⊥) → (IsAtSome Outside (a + 1) n → ⊥) → IsAtSome Outside a (suc n) → ⊥
  none_later a n here more w =
      ⊎_elim
      (λ after. more (w.0, omega (arith, after), omega (arith, w.2), w.3))
      (λ first. let same : w.0 ≡ a = omega (arith, w.1, first) in here (subst Outside same w.3))
      (cases_lt a w.0)

  one_more : (a n : ℕ) → Told a → AllTold (a + 1) n → AllTold a (suc n)
  one_more a n here rest =
      ⊎_elim
      (λ refused. inl ((a, omega arith, omega arith, refused.0), rw refused.1 refl))
      (λ told.
      ⊎_elim
      (λ refused. inl (later a n refused.0, rw (told.1, refused.1) refl))
      (λ all. inr (none_later a n told.0 all.0, rw (told.1, all.1) refl))
      rest)
      here

  -- all the numbers, or LIMIT where some place has it
  pub all_told : (a n : ℕ) → ((place : ℕ) → a ≤ place → place < a + n → Told place) → AllTold a n
  all_told a zero each = inr (λ w. absurd (omega (arith, w.1, w.2)), refl)
  all_told a (suc n) each = one_more a n (each a (omega arith) (omega arith)) (all_told (a + 1) n (λ place from below. each place (omega (arith, from)) (omega (arith, below))))

module _ (below : (shape index : List ℕ) → IsIndexOf shape index → place_of shape index < count_of shape)
    (same_index : (shape index : List ℕ) → IsIndexOf shape index → index_at shape (place_of shape index) ≡ index)
    (lawful : (shape : List ℕ) (place : ℕ) → place < count_of shape → IsIndexOf shape (index_at shape place)) where
  pub answers_told : (shape : List ℕ) (outcome : List ℕ → Result Elem Fault) (Outside : List ℕ → Type 0) (value : List ℕ → ℤ)
      → ((index : List ℕ) → IsIndexOf shape index → IsRefusedOr Limit (Outside index) (Int (value index)) (outcome index))
      → IsRefusedOr Refused ((index : List ℕ) × IsIndexOf shape index × Outside index) (number_array shape (map value (index_lists shape))) (answer_of shape outcome Number)
  answers_told shape outcome Outside value each =
      let n = count_of shape in
      let outcomes : map outcome (index_lists shape) ≡ map (λ place. outcome (index_at shape place)) (range_with_len 0 n) = map-map outcome (index_at shape) (range_with_len 0 n) in
      let values : map value (index_lists shape) ≡ map (λ place. value (index_at shape place)) (range_with_len 0 n) = map-map value (index_at shape) (range_with_len 0 n) in
      let told = all_told (λ place. outcome (index_at shape place)) (λ place. Outside (index_at shape place)) (λ place. value (index_at shape place)) 0 n
      (λ place from inside. each (index_at shape place) (lawful shape place (omega (arith, inside)))) in
      ⊎_elim
      (λ one. inl ((index_at shape one.0.0, lawful shape one.0.0 (omega (arith, one.0.2)), one.0.3), ap (λ r. shaped shape Number (collect_outcomes r)) outcomes ∙ ap (shaped shape Number) one.1))
      (λ none. inr (
        λ w. none.0 (place_of shape w.0, omega arith, omega (arith, below shape w.0 w.1), subst Outside (sym (same_index shape w.0 w.1)) w.2),
        ap (λ r. shaped shape Number (collect_outcomes r)) outcomes ∙ ap (shaped shape Number) none.1 ∙ ap (λ ns. Ok (number_array shape ns)) (sym values),
      ))
      told

  -- some outcome is LIMIT, the others being numbers
  pub limits_are_answered : (shape : List ℕ) (outcome : List ℕ → Result Elem Fault) (value : List ℕ → ℤ)
      → ((index : List ℕ) → IsIndexOf shape index → (outcome index ≡ Err Limit) ⊎ (outcome index ≡ Ok (Int (value index))))
      → IsRefusedOr Refused ((index : List ℕ) × IsIndexOf shape index × (outcome index ≡ Err Limit)) (number_array shape (map value (index_lists shape))) (answer_of shape outcome Number)
  limits_are_answered shape outcome value each =
      answers_told shape outcome (λ index. outcome index ≡ Err Limit) value
      (λ index is. ⊎_elim (λ limit. inl (limit, limit)) (λ number. inr (λ limit. absurd (let e = sym number ∙ limit in cc), number)) (each index is))
