use Rattle.std.proofs.Common.{◌∷◌, [], ◌++◌, codes}
use Rattle.std.specs.Prelude.{decimal}
use Rattle.std.proofs.lemmas.Result.{err_from_is_err_and}
use Rattle.apl_print.specs.Text.{line_feed}
use Rattle.apl_print.proofs.PutLemmas.{AppendsFront-first, AppendsFront-after, Writes-after}
use Rattle.apl_print.proofs.reporting.put_was.Goals as goal

pub returns-in_err-put_all-clause-writes : goal.returns-in_err-put_all-clause-writes
returns-in_err-put_all-clause-writes g c =
    let exit = err_from_is_err_and c.from_residual.result c.from_residual.ensures.1 in
    rw exit.1 (AppendsFront-first _ _ (codes "WAS ") (decimal c.args.setting ++ line_feed ∷ []) c.in_err-put_all.ensures.writes)

pub returns-in_err-put_all-2-clause-writes : goal.returns-in_err-put_all-2-clause-writes
returns-in_err-put_all-2-clause-writes g c =
    let exit = err_from_is_err_and c.from_residual-in_err-put_all-2.result c.from_residual-in_err-put_all-2.ensures.1 in
    let digits = rw (c.as_bytes.ensures.value, c.format.ensures.text) at c.in_err-put_all-2.ensures.writes in
    rw exit.1 (AppendsFront-after _ _ _ (codes "WAS ") (decimal c.args.setting) (line_feed ∷ []) c.in_ok-put_all.ensures.writes digits)

pub returns-clause-writes : goal.returns-clause-writes
returns-clause-writes g c =
    let digits = rw (c.as_bytes.ensures.value, c.format.ensures.text) at c.in_ok-put_all-2.ensures.writes in
    Writes-after _ _ _ (codes "WAS ") (decimal c.args.setting ++ line_feed ∷ []) c.put_all-3.result c.in_ok-put_all.ensures.writes
    (Writes-after _ _ _ (decimal c.args.setting) (line_feed ∷ []) c.put_all-3.result digits c.put_all-3.ensures.writes)
