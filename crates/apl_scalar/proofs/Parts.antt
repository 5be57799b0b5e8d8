-- Parts of a room that grow by blocks.
use Rattle.std.proofs.Common.{◌≡◌, ℕ, ◌+◌, ◌-◌, ◌≤◌, ◌⊎◌, List, Result, Ok, slice_index_or, ⊎_elim, ap, sym, ◌∙◌, arith}
use Rattle.std.proofs.lemmas.Bool.{cases_lt}
use Rattle.apl_pool.specs.declared.kernel.Fault.{Fault}
use Rattle.apl_scalar.specs.Runs.{HasPart, DiffersIn}

module _ {T : Type 0} (outcome : ℕ → Result T Fault) (from : ℕ) (before after : List T) where
  -- a block of values after others
  pub grown : (first done count : ℕ) → HasPart outcome from first done before → HasPart outcome from (first + done) count after → DiffersIn (first + done) count before after
      → HasPart outcome from first (done + count) after
  grown first done count had made differs = record {
    each = λ k d inside.
        ⊎_elim
        (λ less. had.each k d less ∙ ap (λ v. Ok v) (sym (differs.less (first + k) d (omega (arith, less)))))
        (λ more.
        let j = k - done in
        let here : first + done + j ≡ first + k = omega (arith, more) in
        let place : from + (first + done) + j ≡ from + first + k = omega (arith, more) in
        ap outcome (sym place) ∙ made.each j d (omega (arith, more, inside)) ∙ ap (λ i. Ok (slice_index_or after i d)) here)
        (cases_lt k done);
  }

  -- a block of values at indexes before or after those of a part
  pub kept : (first count at size : ℕ) → (first + count ≤ at) ⊎ (at + size ≤ first) → HasPart outcome from first count before → DiffersIn at size before after
      → HasPart outcome from first count after
  kept first count at size apart had differs = record {
    each = λ k d inside.
        had.each k d inside ∙ ap (λ v. Ok v) (sym
        (⊎_elim (λ less. differs.less (first + k) d (omega (arith, less, inside))) (λ more. differs.more (first + k) d (omega (arith, more, inside))) apart));
  }
