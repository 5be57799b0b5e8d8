-- One more value, one more stretch of values, and the first fault among them.
use Rattle.std.proofs.Common.{◌≡◌, ℕ, ◌+◌, ◌-◌, ◌<◌, ◌≤◌, List, [], ◌∷◌, ◌++◌, length, Result, Ok, refl, sym, ap, ◌∙◌, subst, ⊎_elim, arith, length-append}
use Rattle.std.specs.Prelude.{IsOk}
use Rattle.std.proofs.lemmas.List.{get_or_append_left, get_or-append_right}
use Rattle.std.proofs.lemmas.Bool.{cases_lt}
use Rattle.apl_pool.specs.declared.kernel.Fault.{Fault}
use Rattle.apl_pool.specs.declared.kernel.Stop.{Stop}
use Rattle.apl_pool.specs.declared.kernel.Stop.TheVariants.{Fault as FaultAt, Memory}
use Rattle.apl_pool.specs.Pool.{AreValues, IsStopOf}
use Rattle.apl_pool.specs.Parts.{AreValuesFrom, IsStopFrom}
use Rattle.apl_pool.specs.Runs.{AreWritten}

some_element : {T : Type 0} → (xs : List T) → 0 < length xs → T
some_element [] h = absurd (omega arith)
some_element (x ∷ xs) h = x

module _ {T : Type 0} (outcome : ℕ → Result T Fault) where
  ok_from_equal : (k : ℕ) (x : T) → outcome k ≡ Ok x → IsOk (outcome k)
  ok_from_equal k x e = let P : Result T Fault → Type 0 = λ r. IsOk r in subst P (sym e) refl

  -- values are put after values
  pub AreValuesFrom-append : (from mid to : ℕ) (old new : List T) → AreValuesFrom outcome from mid old
      → AreValuesFrom outcome mid to new → AreValuesFrom outcome from to (old ++ new)
  AreValuesFrom-append from mid to old new first second = record {
    len = omega (arith, length-append old new, first.len, second.len);
    each = λ k d h.
        ⊎_elim
        (λ below. first.each k d below ∙ ap Ok (sym (get_or_append_left old new d k below)))
        (λ above.
        let inside : k - length old < length new = omega (arith, length-append old new) in
        let same : mid + (k - length old) ≡ from + k = omega (arith, first.len) in
        ap outcome (sym same) ∙ second.each (k - length old) d inside ∙ ap Ok (sym (get_or-append_right old new (length old) k d refl above)))
        (cases_lt k (length old));
  }

  -- no place that has a value has a fault
  pub IsOk-from_values : (from to : ℕ) (values : List T) → AreValuesFrom outcome from to values
      → (k : ℕ) → from ≤ k → k < to → IsOk (outcome k)
  IsOk-from_values from to values all k low high =
      let some : 0 < length values = omega (arith, all.len) in
      let d = some_element values some in
      let same : from + (k - from) ≡ k = omega arith in
      let inside : k - from < length values = omega (arith, all.len) in
      let P : ℕ → Type 0 = λ n. IsOk (outcome n) in
      subst P same (ok_from_equal (from + (k - from)) _ (all.each (k - from) d inside))

  -- the first fault of a later stretch is that of the whole, where the places before it have values
  pub IsStopFrom-wider : (from mid next to end : ℕ) (values : List T) (stop : Stop) → from ≤ mid → next ≡ mid → to ≤ end → AreValuesFrom outcome from mid values
      → IsStopFrom outcome next to stop → IsStopFrom outcome from end stop
  IsStopFrom-wider from mid next to end values (FaultAt place fault) low same high all first = record {
    at_least = omega (arith, first.at_least);
    below = omega (arith, first.below);
    faulty = first.faulty;
    earlier = λ k l h.
        ⊎_elim
        (λ below. IsOk-from_values from mid values all k l below)
        (λ above. first.earlier k (omega arith) h)
        (cases_lt k mid);
  }
  IsStopFrom-wider from mid next to end values Memory low same high all first = tt

  -- no place whose value is written has a fault
  pub IsOk-from_written : (from to : ℕ) (values : List T) → AreWritten outcome from to values
      → (k : ℕ) → from ≤ k → k < to → IsOk (outcome k)
  IsOk-from_written from to values all k low high =
      let some : 0 < length values = omega (arith, all.room) in
      let d = some_element values some in
      let same : from + (k - from) ≡ k = omega arith in
      let inside : from + (k - from) < to = omega arith in
      let P : ℕ → Type 0 = λ n. IsOk (outcome n) in
      subst P same (ok_from_equal (from + (k - from)) _ (all.each (k - from) d inside))

  -- the first fault of a later stretch is that of the whole, where the values before it are written
  pub IsStopFrom-after_written : (from mid next to end : ℕ) (values : List T) (stop : Stop) → from ≤ mid → next ≡ mid → to ≤ end → AreWritten outcome from mid values
      → IsStopFrom outcome next to stop → IsStopFrom outcome from end stop
  IsStopFrom-after_written from mid next to end values (FaultAt place fault) low same high all first = record {
    at_least = omega (arith, first.at_least);
    below = omega (arith, first.below);
    faulty = first.faulty;
    earlier = λ k l h.
        ⊎_elim
        (λ below. IsOk-from_written from mid values all k l below)
        (λ above. first.earlier k (omega arith) h)
        (cases_lt k mid);
  }
  IsStopFrom-after_written from mid next to end values Memory low same high all first = tt

  pub AreValues-from_zero : (count : ℕ) (values : List T) → AreValuesFrom outcome 0 count values → AreValues outcome count values
  AreValues-from_zero count values all = record {
    len = omega (arith, all.len);
    each = λ place d h.
        let inside : place < length values = omega (arith, all.len) in
        let same : 0 + place ≡ place = omega arith in
        ap outcome (sym same) ∙ all.each place d inside;
  }

  pub IsStopOf-from_zero : (count : ℕ) (stop : Stop) → IsStopFrom outcome 0 count stop → IsStopOf outcome count stop
  IsStopOf-from_zero count (FaultAt place fault) first =
      record { below = first.below; faulty = first.faulty; earlier = λ k h. first.earlier k (omega arith) h }
  IsStopOf-from_zero count Memory first = tt
