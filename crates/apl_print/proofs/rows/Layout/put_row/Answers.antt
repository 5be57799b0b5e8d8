use Rattle.std.proofs.Common.{◌≡◌, ◌+◌, ◌-◌, ◌<◌, ◌≤◌, ◌++◌, [], length, take, drop, get_or, Some, None, string_bytes, encode_utf8_all, slice_index, ap, sym, subst, ◌∙◌, arith}
use Rattle.std.specs.Prelude.{All}
use Rattle.std.proofs.lemmas.List.{take_all}
use Rattle.std.proofs.lemmas.List.Elements.{All-more}
use Rattle.apl_array.specs.Array.{element_in}
use Rattle.apl_print.specs.Shown.{field_of, aligned}
use Rattle.apl_print.specs.Layout.{rest_of_row, fields_between}
use Rattle.apl_print.proofs.TextLemmas.{on_ok}
use Rattle.apl_print.proofs.TableLemmas.{row_more, field_between, length-fields_between}
use Rattle.apl_print.proofs.rows.Layout.put_row.Goals as goal

pub places-preserved : goal.places-preserved
places-preserved c =
    let a = c.args.array.now in
    let self = c.args.self in
    let fields = fields_between a c.args.start c.args.end in
    let k = c.places.place - c.args.start in
    let ends : c.args.end ≤ length a.ravel = omega (arith, c.requires.within, c.requires.lawful.len) in
    let below : c.places.place < c.args.end = omega arith in
    let next : k + 1 ≡ c.places.place + 1 - c.args.start = omega arith in
    let place : c.args.start + k ≡ c.places.place = omega arith in
    let inside : k < c.args.end - c.args.start = omega arith in
    let in_array : c.args.start + k < length a.ravel = omega arith in
    let within : k < length fields = omega (arith, length-fields_between a c.args.start c.args.end ends) in
    let field : get_or fields k [] ≡ field_of c.get-element.result =
    field_between a c.args.start c.args.end k inside in_array ∙ ap (λ p. field_of (element_in a p)) place ∙ ap field_of (sym c.get-element.ensures.element) in record {
      row = subst (λ j. string_bytes c.put_field.new.text ++ encode_utf8_all (rest_of_row self.width self.gap (Some c.in_ok-put_field.field-0) (aligned (slice_index c.args.widths.now) j (drop j fields)))
          ≡ string_bytes c.args.text.now ++ encode_utf8_all (rest_of_row self.width self.gap None (aligned (slice_index c.args.widths.now) 0 fields))) next
          (row_more self.width self.gap c.places.column c.in_ok-put_field.field-0 (slice_index c.args.widths.now) k fields (string_bytes c.places.text) (string_bytes c.put_field.new.text) _ (field_of c.get-element.result) c.width_at-width.result
          within field c.width_at-width.ensures c.in_ok-put_field.ensures.text c.in_ok-put_field.ensures.column c.places.invariant.row);
      in_bounds = c.in_ok-put_field.ensures.«open»;
      short = subst (λ j. All (λ field. length field ≤ 21) (take j fields)) next
          (All-more (λ field. length field ≤ 21) fields k [] within c.places.invariant.short (subst (λ f. length f ≤ 21) (sym field) c.in_ok-put_field.ensures.short));
    }

pub returns-clause-short : goal.returns-clause-short
returns-clause-short c =
    let a = c.args.array.now in
    let fields = fields_between a c.args.start c.args.end in
    let ends : c.args.end ≤ length a.ravel = omega (arith, c.requires.within, c.requires.lawful.len) in
    on_ok c.push.result (subst (All (λ field. length field ≤ 21)) (take_all (c.places.place - c.args.start) fields (omega (arith, length-fields_between a c.args.start c.args.end ends))) c.places.invariant.short)
