use Rattle.std.proofs.Common.{◌≡◌, ℤ, pos, ◌+◌, ◌*◌, FitsSigned, Ok, slice_index_or, to_z, of_z, w64, sym, ap, ◌∙◌, arith, rules, map}
use Rattle.std.proofs.lemmas.Int.{to_z-of_z}
use Rattle.std.proofs.lemmas.List.{get_or-set_other}
use Rattle.apl_array.specs.declared.function.ScalarFunction.TheVariants.{Plus, Times}
use Rattle.apl_scalar.specs.Scalar.{dyadic_numbers}
use Rattle.apl_reduce.specs.Items.{number_step}
use Rattle.apl_reduce.proofs.Runs.{written_more}
use Rattle.apl_reduce.proofs.line_rows.LineRows.fold_products.Goals as goal

pub loop-j-preserved : goal.loop-j-preserved
loop-j-preserved g c =
    let s = c.args.self.now in
    let totals = c.loop-j.totals in
    let j = c.loop-j.j in
    let x = slice_index_or s.line.now c.args.row (pos 0) in
    let y = slice_index_or (map g.U.Numeric.number_in s.right.now) (c.args.column + j + c.args.row * s.stride) (pos 0) in
    let t = slice_index_or totals j (pos 0) in
    let fits_x : FitsSigned w64 x = search rules in
    let held_y : to_z w64 (of_z w64 c.number_at-number.result) ≡ c.number_at-number.result = search rules in
    let fits_t : FitsSigned w64 t = search rules in
    let read_x = sym (to_z-of_z w64 x fits_x) in
    let read_y = sym (held_y ∙ c.number_at-number.ensures) in
    let read_t = sym (to_z-of_z w64 t fits_t) in
    let kept : to_z w64 (of_z w64 c.in-Ok.total) ≡ c.in-Ok.total = search rules in
    let before = sym (c.loop-j.invariant.2 j (omega arith)) in
    let onto = λ (a b z : ℤ). number_step Plus (dyadic_numbers Times a b) (Ok z) in
    let is = ap (onto x y) (before ∙ read_t) ∙ ap (λ a. onto a y (to_z w64 (of_z w64 t))) read_x ∙ ap (λ b. onto (to_z w64 (of_z w64 x)) b (to_z w64 (of_z w64 t))) read_y ∙ sym c.with_product.ensures ∙ c.in-Ok.is in (
      rw (c.put.ensures, kept) (written_more _ j _ _ (omega arith) c.loop-j.invariant.0 is),
      search rules,
      λ i above. rw (c.put.ensures, kept) (get_or-set_other totals j i c.in-Ok.total (pos 0) (λ same. absurd (omega (arith, same, above))) ∙ c.loop-j.invariant.2 i (omega (arith, above))),
    )
