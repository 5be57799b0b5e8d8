use Rattle.std.proofs.Common.{◌≡◌, ℕ, ℤ, pos, ◌+◌, ◌*◌, ◌<◌, FitsSigned, slice_index_or, slice_set, length, to_z, of_z, w64, refl, sym, subst, ◌∙◌, ⊎_elim, arith, rules, map}
use Rattle.std.proofs.lemmas.Bool.{cases_lt}
use Rattle.std.proofs.lemmas.Grind.{get_or-set_at}
use Rattle.std.proofs.lemmas.Int.{to_z-of_z}
use Rattle.std.proofs.lemmas.List.{get_or-set_other}
use Rattle.apl_reduce.specs.ProductRows.{IsRowSum}
use Rattle.apl_reduce.proofs.NearSums.{both_low}
use Rattle.apl_reduce.proofs.near_products.NearProducts.add_rows.Goals as goal

pub overflow_add-column : goal.overflow_add-column
overflow_add-column g c =
    let first = c.requires.within 0 c.args.self.now.some in
    omega (arith, first, c.loop-j-test.true)

pub loop-j-preserved : goal.loop-j-preserved
loop-j-preserved g c =
    let s = c.args.self.now in
    let most = s.near.left * s.near.right in
    let all = c.args.row + c.args.count in
    let totals = c.loop-j.totals in
    let j = c.loop-j.j in
    let kept = c.loop-j.invariant in
    let sum = c.with_rows-sum.result in
    let t = slice_index_or totals j (pos 0) in
    let fits : FitsSigned w64 t = search rules in
    let read : to_z w64 (of_z w64 t) ≡ t = to_z-of_z w64 t fits in
    let stored : to_z w64 (of_z w64 sum.0) ≡ sum.0 = search rules in
    let inside : j < length totals = omega (arith, c.loop-j-test.true, kept.len) in
    let Is : ℕ → ℕ → ℤ → Type 0 = λ i count z. IsRowSum s.line.now (map g.U.Numeric.number_in s.right.now) s.stride most (c.args.column + i) count z in
    record {
      sums = λ low i below.
          let both = both_low (2 * s.near.right) c.loop-j.bits sum.1 low in
          rw (c.put.ensures, stored) (⊎_elim
          (λ earlier. subst (Is i all) (sym (get_or-set_other totals j i sum.0 (pos 0) (λ same. absurd (omega (arith, same, earlier))))) (kept.sums both.0 i earlier))
          (λ later.
          let same : j ≡ i = omega (arith, later, below) in
          let old = subst (Is j c.args.row) (sym (read ∙ kept.rest j (omega arith))) (c.requires.sums j (omega (arith, c.loop-j-test.true))) in
          subst (λ m. Is m all (slice_index_or (slice_set totals j sum.0) m (pos 0))) same
          (subst (Is j all) (sym (get_or-set_at totals j j sum.0 (pos 0) refl inside)) (c.with_rows-sum.ensures both.1 old)))
          (cases_lt i j));
      rest = λ i above. rw (c.put.ensures, stored) (get_or-set_other totals j i sum.0 (pos 0) (λ same. absurd (omega (arith, same, above))) ∙ kept.rest i (omega (arith, above)));
      len = search rules;
    }
