use Rattle.std.proofs.Common.{◌≡◌, ◌<◌, ◌≤◌, ◌++◌, [], length, map, None, string_bytes, encode_utf8_all, slice_index, refl, ap, sym, subst, ◌∙◌, arith}
use Rattle.std.specs.Prelude.{All}
use Rattle.std.proofs.lemmas.List.{length-map}
use Rattle.apl_array.specs.Shape.{count_of}
use Rattle.apl_print.specs.Shown.{field_of, gap_of, aligned, IsShown}
use Rattle.apl_print.specs.Layout.{rest_of_row, fields_between}
use Rattle.apl_print.specs.Width.{least_width}
use Rattle.apl_print.proofs.ShownLemmas.{laid_text, laid_table, laid_text-row, laid_text-table, laid_text-empty, shown_by_layout}
use Rattle.apl_print.proofs.TableLemmas.{aligned_none, fields_between-all}
use Rattle.apl_print.proofs.values.print.Goals as goal
use Rattle.apl_print.proofs.values.print.Goals.{then-rank-le1+in_ok-put_row, else-rank-le1+then-count-gt0+in_ok-put_rows, else-rank-le1+else-count-gt0}

pub returns : goal.returns
returns c =
    let a = c.args.array.now in
    let fields = map field_of a.ravel in
    let width = c.new-layout.result.width in
    let gap = c.new-layout.result.gap in
    let elements : length a.ravel ≡ count_of a.shape = c.shape-2.ensures.lawful.len in
    let count : c.count-count.result ≡ length a.ravel = c.count-count.ensures.count ∙ ap count_of c.shape.ensures.shape ∙ sym elements in
    let rank : c.rank.result ≡ length a.shape = c.rank.ensures.rank ∙ ap length c.shape-2.ensures.shape in
    let parts : All (λ f. length f ≤ 21) fields × (string_bytes c.if-rank-le1.text ≡ encode_utf8_all (laid_text width gap a.shape fields)) =
    elim c.if-rank-le1.branch [
      | then-rank-le1+in_ok-put_row w ↦ (
          let whole : fields_between a 0 c.count-count.result ≡ fields = fields_between-all a c.count-count.result (omega arith) in
          let is_row : length a.shape ≤ 1 = omega (arith, w.if-rank-le1.true) in (
            subst (All (λ f. length f ≤ 21)) whole w.in_ok-put_row.ensures.short,
            ap string_bytes w.text-is ∙ w.in_ok-put_row.ensures.laid
                ∙ ap (λ old. old ++ encode_utf8_all (rest_of_row width gap None (aligned (slice_index []) 0 (fields_between a 0 c.count-count.result)))) c.in_ok-text.ensures.bytes
                ∙ ap (λ row. encode_utf8_all (rest_of_row width gap None row)) (aligned_none (slice_index []) 0 (fields_between a 0 c.count-count.result) (λ k. refl) ∙ whole)
                ∙ ap encode_utf8_all (sym (laid_text-row width gap a.shape fields is_row)),
          )
          )
      | else-rank-le1+then-count-gt0+in_ok-put_rows w ↦ (
          let is_table : 1 < length a.shape = omega (arith, w.if-rank-le1.false) in
          let some : 0 < length fields = omega (arith, w.if-count-gt0.true, length-map a.ravel field_of) in (
            w.in_ok-put_rows.ensures.short,
            ap string_bytes w.text-is ∙ w.in_ok-put_rows.ensures.laid
                ∙ ap (λ old. old ++ encode_utf8_all (laid_table width gap a.shape fields)) c.in_ok-text.ensures.bytes
                ∙ ap encode_utf8_all (sym (laid_text-table width gap a.shape fields is_table some)),
          )
          )
      | else-rank-le1+else-count-gt0 w ↦ (
          let is_table : 1 < length a.shape = omega (arith, w.if-rank-le1.false) in
          let none : length fields ≡ 0 = omega (arith, w.if-count-gt0.false, length-map a.ravel field_of) in (
            (λ k d within. absurd (omega arith)),
            ap string_bytes w.text-is ∙ c.in_ok-text.ensures.bytes ∙ ap encode_utf8_all (sym (laid_text-empty width gap a.shape fields is_table none)),
          )
          )
    ] in
    let is_width : width ≡ c.args.width = c.new-layout.ensures.width in
    let wide : least_width ≤ width = omega (arith, c.requires.low) in
    let shown = shown_by_layout a width gap (string_bytes c.if-rank-le1.text) wide (c.new-layout.ensures.gap ∙ ap gap_of c.kind.ensures.kind) parts.0 parts.1 in
    record { shown = (shown.0, subst (λ w. IsShown a w shown.0) is_width shown.1, shown.2) }
