-- Summaries of stretches of places: of one place, and of two stretches beside each other.
use Rattle.std.proofs.Common.{◌≡◌, ℕ, zero, suc, ◌+◌, ◌<◌, ◌≤◌, List, [], ◌∷◌, ◌++◌, ℤ, Option, Some, None, Result, Ok, Err, ap, ◌∙◌, subst, arith}
use Rattle.std.specs.Prelude.{IsOk, slice_index_or}
use Rattle.apl_pool.specs.declared.kernel.Fault.{Fault}
use Rattle.apl_pool.specs.declared.kernel.Stop.{Stop}
use Rattle.apl_pool.specs.Parts.{AreValuesFrom, IsStopFrom}
use Rattle.apl_pool.specs.Summaries.{IsI64, and_then, IsSummaryFrom}
use Rattle.apl_pool.specs.Folds.{items_in, IsFoldFrom, IsFolded, IsFoldedPart}
use Rattle.apl_pool.proofs.Summaries.{summary-one, summary-join}
use Rattle.apl_pool.proofs.Values.{AreValuesFrom-append, IsOk-from_values, IsStopFrom-wider}

value_at : {X : Type 0} (outcome : ℕ → Result X Fault) (place : ℕ) (x : X) → outcome place ≡ Ok x → AreValuesFrom outcome place (place + 1) (x ∷ [])
value_at {X = X} outcome place x is = record { len = omega arith; each = each } where
  each : (k : ℕ) (d : X) → k < 1 → outcome (place + k) ≡ Ok (slice_index_or (x ∷ []) k d)
  each zero d h = let same : place + 0 ≡ place = omega arith in ap outcome same ∙ is
  each (suc k) d h = absurd (omega (arith, h))

module _ {S X : Type 0} (step : X → ℤ → Result ℤ Fault) (item_count : S → ℕ) (does : S → ℤ → Result ℤ Fault) (outcome : ℕ → Result X Fault) where
  pub fold_one : (place : ℕ) (x : X) (s : S) → outcome place ≡ Ok x → item_count s ≡ 1 → ((right : ℤ) → IsI64 right → does s right ≡ step x right)
      → ((right z : ℤ) → IsI64 right → does s right ≡ Ok z → IsI64 z) → IsFoldFrom step item_count does outcome place (place + 1) s
  fold_one place x s is c o r = record { items = x ∷ []; values = value_at outcome place x is; summary = summary-one step item_count does s x c o; range = r }

  pub fold_both : (from mid to : ℕ) (a b s : S) → IsFoldFrom step item_count does outcome from mid a → IsFoldFrom step item_count does outcome mid to b
      → item_count s ≡ item_count a + item_count b → ((right : ℤ) → IsI64 right → does s right ≡ and_then (does b right) (does a))
      → ((right z : ℤ) → IsI64 right → does s right ≡ Ok z → IsI64 z) → IsFoldFrom step item_count does outcome from to s
  fold_both from mid to a b s p q c o r = record {
    items = p.items ++ q.items;
    values = AreValuesFrom-append outcome from mid to p.items q.items p.values q.values;
    summary = summary-join step item_count does a b s p.items q.items q.range p.summary q.summary c o;
    range = r;
  }

  -- a run that was summarized at once
  pub of_a_run : (from to : ℕ) (s : S) → from ≤ to → IsSummaryFrom step item_count does outcome from to s → IsFoldFrom step item_count does outcome from to s
  of_a_run from to s order p = record {
    items = p.items;
    values = record { len = omega (arith, p.values.len); each = λ k d h. p.values.each k d (omega (arith, h, p.values.len)) };
    summary = p.summary;
    range = p.range;
  }

  -- a summary that is known
  pub fold_is : (from to : ℕ) (folded : Option S) (s : S) → folded ≡ Some s → IsFolded step item_count does outcome from to folded → IsFoldFrom step item_count does outcome from to s
  fold_is from to folded s is holds = let P : Option S → Type 0 = λ f. IsFolded step item_count does outcome from to f in subst P is holds

  -- as many items as places
  pub counted : (from to : ℕ) (folded : Option S) → IsFolded step item_count does outcome from to folded → from + items_in item_count folded ≡ to
  counted from to (Some s) p = omega (arith, p.summary.number_of_items, p.values.len)
  counted from to None p = omega (arith, p)

  values_of : (from to : ℕ) (folded : Option S) → IsFolded step item_count does outcome from to folded → (items : List X) × AreValuesFrom outcome from to items
  values_of from to (Some s) p = (p.items, p.values)
  values_of from to None p = ([], record { len = omega (arith, p); each = λ k d h. absurd (omega (arith, h)) })

  -- no place of a summary has a fault
  pub all_ok : (from to : ℕ) (folded : Option S) → IsFolded step item_count does outcome from to folded → (k : ℕ) → from ≤ k → k < to → IsOk (outcome k)
  all_ok from to folded p = let v = values_of from to folded p in IsOk-from_values outcome from to v.0 v.1

  -- the first fault of a later stretch is that of the whole, where the places before it are summarized
  pub stop_behind : (from mid next to end : ℕ) (folded : Option S) (stop : Stop) → from ≤ mid → next ≡ mid → to ≤ end → IsFolded step item_count does outcome from mid folded
      → IsStopFrom outcome next to stop → IsStopFrom outcome from end stop
  stop_behind from mid next to end folded stop low same high p first =
      let v = values_of from mid folded p in IsStopFrom-wider outcome from mid next to end v.0 stop low same high v.1 first

  -- what a worker answers, where it is known to be a summary or a stop
  pub folded_is : (from to : ℕ) (part : Result (Option S) Stop) (folded : Option S) → part ≡ Ok folded → IsFoldedPart step item_count does outcome from to part
      → IsFolded step item_count does outcome from to folded
  folded_is from to part folded is holds = let P : Result _ _ → Type 0 = λ r. IsFoldedPart step item_count does outcome from to r in subst P is holds

  pub stop_is : (from to : ℕ) (part : Result (Option S) Stop) (stop : Stop) → part ≡ Err stop → IsFoldedPart step item_count does outcome from to part
      → IsStopFrom outcome from to stop
  stop_is from to part stop is holds = let P : Result _ _ → Type 0 = λ r. IsFoldedPart step item_count does outcome from to r in subst P is holds
