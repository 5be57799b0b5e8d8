use Rattle.std.proofs.Common.{subst}
use Rattle.std.proofs.lemmas.Result.{err_from_is_err_and}
use Rattle.apl_print.specs.Put.{AppendsFront, Writes}
use Rattle.apl_print.proofs.PutLemmas.{AppendsFront-first, AppendsFront-after, Writes-after}
use Rattle.apl_print.proofs.ReportLemmas.{caret_pieces}
use Rattle.apl_print.proofs.reporting.put_caret.Goals as goal

pub returns-in_err-put_all-clause-writes : goal.returns-in_err-put_all-clause-writes
returns-in_err-put_all-clause-writes g c =
    let exit = err_from_is_err_and c.from_residual.result c.from_residual.ensures.1 in
    rw exit.1 (subst (AppendsFront (g.S.Sink.taken c.args.sink.now) (g.S.Sink.taken c.put_all.new.sink)) (caret_pieces c.args.column)
    (AppendsFront-first _ _ _ _ c.in_err-put_all.ensures.writes))

pub returns-in_err-put_blanks-clause-writes : goal.returns-in_err-put_blanks-clause-writes
returns-in_err-put_blanks-clause-writes g c =
    let exit = err_from_is_err_and c.from_residual-in_err-put_blanks.result c.from_residual-in_err-put_blanks.ensures.1 in
    rw exit.1 (subst (AppendsFront (g.S.Sink.taken c.args.sink.now) (g.S.Sink.taken c.put_blanks.new.sink)) (caret_pieces c.args.column)
    (AppendsFront-after _ _ _ _ _ _ c.in_ok-put_all.ensures.writes c.in_err-put_blanks.ensures.writes))

pub returns-clause-writes : goal.returns-clause-writes
returns-clause-writes g c =
    subst (λ text. Writes (g.S.Sink.taken c.args.sink.now) (g.S.Sink.taken c.put_all-2.new.sink) text c.put_all-2.result) (caret_pieces c.args.column)
    (Writes-after _ _ _ _ _ c.put_all-2.result c.in_ok-put_all.ensures.writes
    (Writes-after _ _ _ _ _ c.put_all-2.result c.in_ok-put_blanks.ensures.writes
    (rw c.as_bytes.ensures.value at c.put_all-2.ensures.writes)))
