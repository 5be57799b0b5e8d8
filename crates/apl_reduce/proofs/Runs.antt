-- Values of a run of places, one more at a time.
use Rattle.std.proofs.Common.{◌≡◌, ℕ, ℤ, ◌+◌, ◌<◌, List, length, slice_set, Result, Ok, ap, sym, ◌∙◌, ⊎_elim, arith}
use Rattle.std.proofs.lemmas.List.{length-set, get_or-set_other}
use Rattle.std.proofs.lemmas.Grind.{get_or-set_at}
use Rattle.std.proofs.lemmas.Bool.{cases_lt}
use Rattle.apl_pool.specs.declared.kernel.Fault.{Fault}
use Rattle.apl_pool.specs.Runs.{AreWritten}

pub written_more : (outcome : ℕ → Result ℤ Fault) (to : ℕ) (room : List ℤ) (x : ℤ) → to < length room → AreWritten outcome 0 to room
    → outcome to ≡ Ok x → AreWritten outcome 0 (to + 1) (slice_set room to x)
written_more outcome to room x inside so_far is = record {
  room = omega (arith, length-set room to x);
  each = λ k d h.
      ⊎_elim
      (λ below. so_far.each k d below ∙ ap Ok (sym (get_or-set_other room to k x d (λ same. absurd (omega (arith, same))))))
      (λ above.
      let here : 0 + k ≡ to = omega arith in
      ap outcome here ∙ is ∙ ap Ok (sym (get_or-set_at room to k x d (omega (arith, here)) inside)))
      (cases_lt (0 + k) to);
}
