-- Values that stand at their places in a list of all.
use Rattle.std.proofs.Common.{◌≡◌, ℕ, ◌+◌, ◌-◌, ◌<◌, ◌≤◌, ◌⊎◌, inl, inr, List, length, get_or, drop, Result, Ok, sym, ap, ◌∙◌, ⊎_elim, arith, slice_range}
use Rattle.std.proofs.lemmas.List.{get_or-take, get_or-drop}
use Rattle.std.proofs.lemmas.Bool.{cases_lt}
use Rattle.apl_pool.specs.declared.kernel.Fault.{Fault}
use Rattle.apl_pool.specs.Parts.{AreValuesAt, AreValuesFrom}
use Rattle.apl_pool.specs.Runs.{AreWritten}

module _ {T : Type 0} (outcome : ℕ → Result T Fault) where
  -- neighbouring stretches
  pub AreValuesAt-append : (from mid to : ℕ) (values : List T) → AreValuesAt outcome from mid values → AreValuesAt outcome mid to values → AreValuesAt outcome from to values
  AreValuesAt-append from mid to values first second k d low high =
      ⊎_elim (λ below. first k d low below) (λ above. second k d above high) (cases_lt k mid)

  -- what stands outside the part that is written stays
  pub AreValuesAt-kept : (from to low high : ℕ) (old new : List T) → ((k : ℕ) (d : T) → (k < low) ⊎ (high ≤ k) → get_or new k d ≡ get_or old k d) → (to ≤ low) ⊎ (high ≤ from)
      → AreValuesAt outcome from to old → AreValuesAt outcome from to new
  AreValuesAt-kept from to low high old new kept beside all k d above below =
      all k d above below ∙ ap Ok (sym (kept k d (⊎_elim (λ before. inl (omega arith)) (λ behind. inr (omega arith)) beside)))

  -- values are written behind those of a list that was made longer, and no others are changed
  pub AreValuesAt-then : (mid next to : ℕ) (old now new : List T) → next ≡ mid → ((k : ℕ) (d : T) → k < mid → get_or now k d ≡ get_or old k d)
      → ((k : ℕ) (d : T) → (k < next) ⊎ (to ≤ k) → get_or new k d ≡ get_or now k d) → AreValuesAt outcome 0 mid old → AreValuesAt outcome next to new
      → AreValuesAt outcome 0 to new
  AreValuesAt-then mid next to old now new here longer kept before piece =
      AreValuesAt-append 0 next to new (λ k d low below. before k d low (omega arith) ∙ ap Ok (sym (kept k d (inl below) ∙ longer k d (omega arith)))) piece

  pub AreWritten-from_at : (to : ℕ) (values : List T) → to ≤ length values → AreValuesAt outcome 0 to values → AreWritten outcome 0 to values
  AreWritten-from_at to values long all = record { room = omega arith; each = λ k d h. let same : 0 + k ≡ k = omega arith in ap outcome same ∙ all k d (omega arith) (omega arith) }

  -- the values of a part stand there in the whole
  pub AreValuesAt-from_range : (from to : ℕ) (values : List T) → from ≤ to → to ≤ length values → AreValuesFrom outcome from to (slice_range values from to) → AreValuesAt outcome from to values
  AreValuesAt-from_range from to values order high all k d above below =
      let same : from + (k - from) ≡ k = omega arith in
      let inside : k - from < to - from = omega arith in
      let got : get_or (slice_range values from to) (k - from) d ≡ get_or values k d =
      get_or-take (to - from) (drop from values) (k - from) d inside ∙ get_or-drop from values (k - from) d ∙ ap (λ n. get_or values n d) same in
      ap outcome (sym same) ∙ all.each (k - from) d (omega (arith, all.len)) ∙ ap Ok got
