use Rattle.std.proofs.Common.{◌≡◌, ℤ, pos, ◌+◌, map, Ok, slice_index_or, FitsSigned, to_z, of_z, w64, sym, ap, ◌∙◌, arith, rules}
use Rattle.std.proofs.lemmas.Int.{to_z-of_z}
use Rattle.std.proofs.lemmas.List.{get_or-set_other}
use Rattle.std.proofs.lemmas.Nat.{le_or_l, le_or_r}
use Rattle.apl_reduce.specs.Folded.{folded_onto, element_along}
use Rattle.apl_reduce.proofs.Runs.{written_more}
use Rattle.apl_reduce.proofs.folded_rows.fold_likely.Goals as goal

pub loop-j-preserved : goal.loop-j-preserved
loop-j-preserved g c =
    let f = g.F.Function.FUNCTION in
    let totals = c.loop-j.totals in
    let j = c.loop-j.j in
    let t = slice_index_or totals j (pos 0) in
    let next = c.likely_onto-total.result in
    let kept : to_z w64 (of_z w64 next.0) ≡ next.0 = search rules in
    let fits : FitsSigned w64 t = search rules in
    let before = c.loop-j.invariant.rest j (omega arith) in
    let onto = λ (z : ℤ). folded_onto f (element_along (map g.T.ElementType.elem_of c.args.numbers.now) (c.args.first + j) c.args.stride) 0 c.args.count (Ok z) in
    record {
      values = λ none.
          let before_none : c.loop-j.all_doubts ≡ 0 = omega (arith, none, le_or_l c.loop-j.all_doubts next.1) in
          let own_none : next.1 ≡ 0 = omega (arith, none, le_or_r c.loop-j.all_doubts next.1) in
          let is = ap onto (sym before) ∙ ap onto (sym (to_z-of_z w64 t fits)) ∙ c.likely_onto-total.ensures own_none in
          rw (c.put.ensures, kept) (written_more _ j _ _ (omega arith) (c.loop-j.invariant.values before_none) is);
      len = search rules;
      rest = λ i above. rw (c.put.ensures, kept) (get_or-set_other totals j i next.0 (pos 0) (λ same. absurd (omega (arith, same, above))) ∙ c.loop-j.invariant.rest i (omega (arith, above)));
    }
