-- What bits at neighbouring places answer, and one more item behind them.
use Rattle.std.specs.Prelude.{slice_index_or}
use Rattle.std.proofs.Common.{◌≡◌, ℕ, ◌+◌, ◌-◌, ◌≤◌, Bool, true, false, ℤ, List, [], ◌∷◌, ◌++◌, length, Result, Ok, Err, refl, sym, ap, ◌∙◌, ⊎_elim, arith, length-append, if◌then◌else◌}
use Rattle.std.proofs.lemmas.Bool.{cases_lt}
use Rattle.std.proofs.lemmas.List.{get_or_append_left, get_or-append_right}
use Rattle.apl_array.specs.declared.function.ScalarFunction.{ScalarFunction}
use Rattle.apl_pool.specs.declared.kernel.Fault.{Fault}
use Rattle.apl_pool.specs.Pool.{AreValues}
use Rattle.apl_pool.specs.Summaries.{and_then, fold_onto, IsSummaryFrom}
use Rattle.apl_scalar.specs.Scalar.{bit, is_one, dyadic_numbers}
use Rattle.apl_summary.specs.declared.answers.Answers.{Answers}
use Rattle.apl_summary.specs.Answers.{is_two_valued, answers, left_answer, as_number, two_valued_outcome}
use Rattle.apl_summary.specs.Fronts.{AreRunningBits, AreBitsFrom}
use Rattle.apl_summary.proofs.Fronts.{bits_front}
use Rattle.apl_summary.proofs.FrontNumbers.{fold_behind}
use Rattle.apl_summary.proofs.TwoValuedAnswers.{two_valued_in_range}

picked : (b z o : Bool) → as_number (if b then Ok o else Ok z) ≡ Ok (bit (if b then o else z))
picked true z o = refl
picked false z o = refl

module _ (outcome : ℕ → Result ℤ Fault) (from : ℕ) where
  -- one value more
  values_next : (place : ℕ) (x : ℤ) (items : List ℤ) → from ≤ place → outcome place ≡ Ok x → AreValues (λ k. outcome (from + k)) (place - from) items
      → AreValues (λ k. outcome (from + k)) (place + 1 - from) (items ++ x ∷ [])
  values_next place x items order is values = record {
    len = omega (arith, length-append items (x ∷ []), values.len, order);
    each = λ k d h.
        ⊎_elim
        (λ below. values.each k d (omega (arith, below, values.len)) ∙ ap Ok (sym (get_or_append_left items (x ∷ []) d k below)))
        (λ above.
        let at : from + k ≡ place = omega (arith, h, above, values.len, order) in
        let first : k - length items ≡ 0 = omega (arith, h, above, values.len, order) in
        ap outcome at ∙ is ∙ sym (ap Ok (get_or-append_right items (x ∷ []) (length items) k d refl above ∙ ap (λ n. slice_index_or (x ∷ []) n d) first)))
        (cases_lt k (length items));
  }

  module _ (f : ScalarFunction) where
    pub no_bits : (z o : Bool) → AreRunningBits f z o [] → AreBitsFrom f outcome from from z o
    no_bits z o are = record { items = []; values = record { len = omega arith; each = λ k d h. absurd (omega (arith, h)) }; answers = are }

    pub bits_next : (place : ℕ) (x : ℤ) (z o next_z next_o : Bool) → from ≤ place → outcome place ≡ Ok x
        → ((xs : List ℤ) → AreRunningBits f z o xs → AreRunningBits f next_z next_o (xs ++ x ∷ [])) → AreBitsFrom f outcome from place z o → AreBitsFrom f outcome from (place + 1) next_z next_o
    bits_next place x z o next_z next_o order is next bits =
        record { items = bits.items ++ x ∷ []; values = values_next place x bits.items order is bits.values; answers = next bits.items bits.answers }

    -- the last item meets what comes in
    meets : (n : ℕ) (z o : Bool) (x right : ℤ) (items : List ℤ) (met : Result ℤ Fault) → is_two_valued f ≡ true → AreRunningBits f z o items → dyadic_numbers f x right ≡ met
        → as_number (left_answer (answers n x (Ok z) (Ok o)) met) ≡ fold_onto (dyadic_numbers f) (items ++ x ∷ []) right
    meets n z o x right items (Ok v) two are is = picked (is_one v) z o ∙ sym (bits_front f z o x right v items two is are)
    meets n z o x right items (Err fault) two are is = sym (fold_behind (dyadic_numbers f) items x right ∙ ap (λ r. and_then r (fold_onto (dyadic_numbers f) items)) is)

    pub summary_with_last : (place to n : ℕ) (x : ℤ) (z o : Bool) → is_two_valued f ≡ true → from ≤ place → place + 1 ≡ to → n ≡ to - from → outcome place ≡ Ok x → AreBitsFrom f outcome from place z o
        → IsSummaryFrom (dyadic_numbers f) (λ (a : Answers). a.count) (two_valued_outcome f) outcome from to (answers n x (Ok z) (Ok o))
    summary_with_last place to n x z o two order next count is bits = record {
      items = bits.items ++ x ∷ [];
      values = rw next at (values_next place x bits.items order is bits.values);
      summary = record {
        number_of_items = omega (arith, count, next, order, length-append bits.items (x ∷ []), bits.values.len);
        does = λ right h. meets n z o x right bits.items (dyadic_numbers f x right) two bits.answers refl;
      };
      range = λ right v h e. two_valued_in_range f (answers n x (Ok z) (Ok o)) right v e;
    }
