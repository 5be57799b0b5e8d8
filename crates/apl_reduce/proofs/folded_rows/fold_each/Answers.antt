use Rattle.std.proofs.Common.{◌≡◌, ℤ, pos, ◌+◌, Ok, map, slice_index_or, FitsSigned, sym, ap, ◌∙◌, to_z, of_z, w64, arith, rules}
use Rattle.std.proofs.lemmas.Int.{to_z-of_z}
use Rattle.std.proofs.lemmas.List.{get_or-set_other}
use Rattle.apl_reduce.specs.Folded.{folded_onto, element_along}
use Rattle.apl_reduce.proofs.Runs.{written_more}
use Rattle.apl_reduce.proofs.folded_rows.fold_each.Goals as goal

pub loop-j-preserved : goal.loop-j-preserved
loop-j-preserved g c =
    let totals = c.loop-j.totals in
    let j = c.loop-j.j in
    let t = slice_index_or totals j (pos 0) in
    let fits : FitsSigned w64 t = search rules in
    let kept : to_z w64 (of_z w64 c.in-Ok.total) ≡ c.in-Ok.total = search rules in
    let onto = λ (z : ℤ). folded_onto g.F.Function.FUNCTION (element_along (map g.T.ElementType.elem_of c.args.elements.now) (c.args.first + j) c.args.stride) 0 c.args.count (Ok z) in
    let before = c.loop-j.invariant.2 j (omega arith) in (
      rw (c.put.ensures, kept) (written_more _ j _ _ (omega arith) c.loop-j.invariant.0 (ap onto (sym before) ∙ ap onto (sym (to_z-of_z w64 t fits)) ∙ sym c.fold_items.ensures ∙ c.in-Ok.is)),
      search rules,
      λ i above. rw (c.put.ensures, kept) (get_or-set_other totals j i c.in-Ok.total (pos 0) (λ same. absurd (omega (arith, same, above))) ∙ c.loop-j.invariant.2 i (omega (arith, above))),
    )
