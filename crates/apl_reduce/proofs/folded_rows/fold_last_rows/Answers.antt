use Rattle.std.proofs.Common.{◌≡◌, sym, ◌∙◌, to_z, of_z, w64, arith, rules}
use Rattle.apl_reduce.proofs.Runs.{written_more}
use Rattle.apl_reduce.proofs.folded_rows.fold_last_rows.Goals as goal

pub loop-j-preserved : goal.loop-j-preserved
loop-j-preserved g c =
    let kept : to_z w64 (of_z w64 c.in-Ok.total) ≡ c.in-Ok.total = search rules in (
      rw (c.put.ensures, kept) (written_more _ c.loop-j.j _ _ (omega arith) c.loop-j.invariant.0 (sym c.last_total.ensures ∙ c.in-Ok.is)),
      search rules,
    )
