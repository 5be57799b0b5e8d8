use Rattle.std.proofs.Common.{Some, None, subst, sym, ◌∙◌, ap}
use Rattle.std.proofs.lemmas.Result.{err_from_is_err_and}
use Rattle.apl_print.specs.Put.{AppendsFront, Writes}
use Rattle.apl_print.specs.Reported.{report_text}
use Rattle.apl_print.proofs.PutLemmas.{AppendsFront-first, AppendsFront-after, Writes-after}
use Rattle.apl_print.proofs.ReportLemmas.{reported_pieces}
use Rattle.apl_print.proofs.reporting.put_report.Goals as goal

pub returns-in_err-put_all-clause-writes : goal.returns-in_err-put_all-clause-writes
returns-in_err-put_all-clause-writes g c =
    let exit = err_from_is_err_and c.from_residual.result c.from_residual.ensures.1 in
    rw exit.1 (subst (AppendsFront (g.S.Sink.taken c.args.sink.now) (g.S.Sink.taken c.put_all.new.sink)) (reported_pieces c.args.report c.args.line.now c.args.column)
    (AppendsFront-first _ _ _ _ (rw c.heading.ensures at c.in_err-put_all.ensures.writes)))

pub returns-in_err-put_all-2-clause-writes : goal.returns-in_err-put_all-2-clause-writes
returns-in_err-put_all-2-clause-writes g c =
    let exit = err_from_is_err_and c.from_residual-in_err-put_all-2.result c.from_residual-in_err-put_all-2.ensures.1 in
    rw exit.1 (subst (AppendsFront (g.S.Sink.taken c.args.sink.now) (g.S.Sink.taken c.put_all-2.new.sink)) (reported_pieces c.args.report c.args.line.now c.args.column)
    (AppendsFront-after _ _ _ _ _ _ (rw c.heading.ensures at c.in_ok-put_all.ensures.writes) c.in_err-put_all-2.ensures.writes))

pub returns-in-None-clause-writes : goal.returns-in-None-clause-writes
returns-in-None-clause-writes g c =
    subst (λ text. Writes (g.S.Sink.taken c.args.sink.now) (g.S.Sink.taken c.put_all-in-None.new.sink) text c.put_all-in-None.result)
    (reported_pieces c.args.report c.args.line.now None ∙ ap (report_text c.args.report c.args.line.now) (sym c.in-None.is))
    (Writes-after _ _ _ _ _ c.put_all-in-None.result (rw c.heading.ensures at c.in_ok-put_all.ensures.writes)
    (Writes-after _ _ _ _ _ c.put_all-in-None.result c.in_ok-put_all-2.ensures.writes c.put_all-in-None.ensures.writes))

pub returns-in-Some-clause-writes : goal.returns-in-Some-clause-writes
returns-in-Some-clause-writes g c =
    subst (λ text. Writes (g.S.Sink.taken c.args.sink.now) (g.S.Sink.taken c.put_caret.new.sink) text c.put_caret.result)
    (reported_pieces c.args.report c.args.line.now (Some c.in-Some.column) ∙ ap (report_text c.args.report c.args.line.now) (sym c.in-Some.is))
    (Writes-after _ _ _ _ _ c.put_caret.result (rw c.heading.ensures at c.in_ok-put_all.ensures.writes)
    (Writes-after _ _ _ _ _ c.put_caret.result c.in_ok-put_all-2.ensures.writes c.put_caret.ensures.writes))
