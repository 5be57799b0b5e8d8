use Rattle.std.proofs.Common.{string_bytes, arith}
use Rattle.apl_print.specs.Shown.{field_of}
use Rattle.apl_print.specs.Layout.{lead}
use Rattle.apl_print.proofs.ShownLemmas.{length-padded}
use Rattle.apl_print.proofs.TextLemmas.{field_pushed}
use Rattle.apl_print.proofs.rows.Layout.put_field.Goals as goal

pub returns-clause-text : goal.returns-clause-text
returns-clause-text c =
    field_pushed (lead c.args.self.width c.args.self.gap c.args.column) (string_bytes c.args.text.now) (string_bytes c.put_lead.new.text) (string_bytes c.push_run.new.text) (string_bytes c.push_element.new.text)
    (field_of c.args.element) c.args.width _ _ c.in_ok-next.ensures.text c.in_ok-push_run.ensures c.in_ok-push_element.ensures
    (omega (arith, c.length_of-length.ensures.size))
    (omega (arith, c.length_of-length.ensures.size, length-padded c.args.width (field_of c.args.element)))
