use Rattle.std.proofs.Common.{◌≡◌, ◌++◌, string_bytes, encode_utf8_all, ap, ◌∙◌, sym, subst, rules, w64, to_z, of_z}
use Rattle.std.proofs.lemmas.Result.{on_ok_weaker}
use Rattle.std.proofs.lemmas.Int.{to_z-of_z}
use Rattle.std.specs.Prelude.{IsAscii, FitsSigned, decimal, unsigned_abs}
use Rattle.apl_print.specs.Shown.{field_of, numeral_of}
use Rattle.apl_print.proofs.TextLemmas.{pushed_on_ok, nonnegative_pushed, negative_pushed}
use Rattle.apl_print.proofs.rows.push_element.Goals as goal
use Rattle.apl_print.proofs.rows.push_element.Goals.{then-number-lt0+in_ok-push-in-Int, else-number-lt0}

pub returns-after-number-lt0 : goal.returns-after-number-lt0
returns-after-number-lt0 c =
    let z = to_z w64 (of_z w64 c.in-Int.number) in
    let fits : FitsSigned w64 c.in-Int.number = search rules in
    let same : numeral_of z ≡ field_of c.args.element = ap numeral_of (to_z-of_z w64 c.in-Int.number fits) ∙ ap field_of (sym c.in-Int.is) in
    let digits : c.format.result.now ≡ decimal (unsigned_abs z) = c.format.ensures.text ∙ ap decimal c.unsigned_abs.ensures.value in
    let ascii : IsAscii (decimal (unsigned_abs z)) = subst IsAscii digits c.format.ensures.ascii in
    on_ok_weaker c.push_str.result (λ pushed. pushed ∙ ap (λ digits. string_bytes c.if-number-lt0.text ++ digits) digits
    ∙ (elim c.if-number-lt0.branch [
      | then-number-lt0+in_ok-push-in-Int w ↦ negative_pushed (string_bytes c.args.text.now) (string_bytes c.if-number-lt0.text) z w.if-number-lt0.true (ap string_bytes w.text-is ∙ w.in_ok-push-in-Int.ensures.bytes) ascii
      | else-number-lt0 w ↦ nonnegative_pushed (string_bytes c.args.text.now) (string_bytes c.if-number-lt0.text) z w.if-number-lt0.false (ap string_bytes w.text-is) ascii
    ])
    ∙ ap (λ field. string_bytes c.args.text.now ++ encode_utf8_all field) same)
    (pushed_on_ok c.push_str.result (string_bytes c.push_str.new.self) (string_bytes c.if-number-lt0.text) c.format.result.now c.push_str.ensures.bytes)
