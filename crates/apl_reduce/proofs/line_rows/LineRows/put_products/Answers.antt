use Rattle.std.proofs.Common.{◌≡◌, ℤ, pos, ◌+◌, ◌*◌, FitsSigned, slice_index_or, to_z, of_z, w64, sym, ap, ◌∙◌, arith, rules, map}
use Rattle.std.proofs.lemmas.Int.{to_z-of_z}
use Rattle.apl_array.specs.declared.function.ScalarFunction.TheVariants.{Times}
use Rattle.apl_scalar.specs.Scalar.{dyadic_numbers}
use Rattle.apl_reduce.proofs.Runs.{written_more}
use Rattle.apl_reduce.proofs.line_rows.LineRows.put_products.Goals as goal

pub loop-j-preserved : goal.loop-j-preserved
loop-j-preserved g c =
    let s = c.args.self.now in
    let x = slice_index_or s.line.now c.args.row (pos 0) in
    let y = slice_index_or (map g.U.Numeric.number_in s.right.now) (c.args.column + c.loop-j.j + c.args.row * s.stride) (pos 0) in
    let fits_x : FitsSigned w64 x = search rules in
    let held_y : to_z w64 (of_z w64 c.number_at-number.result) ≡ c.number_at-number.result = search rules in
    let read_y = sym (held_y ∙ c.number_at-number.ensures) in
    let kept : to_z w64 (of_z w64 c.in-Ok.product) ≡ c.in-Ok.product = search rules in
    let is = ap (λ (a : ℤ). dyadic_numbers Times a y) (sym (to_z-of_z w64 x fits_x)) ∙ ap (dyadic_numbers Times (to_z w64 (of_z w64 x))) read_y ∙ sym c.apply.ensures ∙ c.in-Ok.is in (
      rw (c.put.ensures, kept) (written_more _ c.loop-j.j _ _ (omega arith) c.loop-j.invariant.0 is),
      search rules,
    )
