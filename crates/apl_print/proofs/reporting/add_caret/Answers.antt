use Rattle.std.proofs.Common.{◌≤◌, ◌∙◌, ◌++◌, take, ap, ap₂, arith}
use Rattle.std.proofs.lemmas.Result.{on_ok_weaker}
use Rattle.apl_print.specs.Text.{blanks}
use Rattle.apl_print.proofs.ReportLemmas.{caret_added}
use Rattle.apl_print.proofs.reporting.add_caret.Goals as goal

pub returns : goal.returns
returns c =
    let first = c.in_ok-try_extend_from_slice.ensures.ok in
    let second = c.in_ok-try_extend_from_slice-2.ensures.ok in
    let short : c.args.column ≤ 256 = omega (arith, c.if-column-gt256.false) in
    on_ok_weaker c.try_extend_from_slice-3.result
    (λ third. third ∙ ap₂ ◌++◌ (second ∙ ap (λ text. text ++ take c.args.column (blanks 256)) first) c.as_bytes.ensures.value ∙ caret_added c.args.text.now.items c.args.column short)
    c.try_extend_from_slice-3.ensures.ok
