use Rattle.std.proofs.Common.{◌≤◌, arith, subst, ◌∙◌}
use Rattle.std.proofs.lemmas.Result.{err_from_is_err_and}
use Rattle.std.specs.Io.KnownBytes.{Appends}
use Rattle.std.proofs.KnownBytes.{Appends-trans}
use Rattle.apl_print.proofs.PutLemmas.{AppendsFront-after}
use Rattle.apl_print.specs.Put.{AppendsFront}
use Rattle.apl_print.proofs.ReportLemmas.{blanks_more, blanks_split}
use Rattle.apl_print.proofs.reporting.put_blanks.Goals as goal

pub runs-preserved : goal.runs-preserved
runs-preserved g c =
    let before = c.runs.invariant in
    let short : c.min-n.result ≤ 256 = omega (arith, c.min-n.ensures) in
    let some : c.min-n.result ≤ c.runs.rest = omega (arith, c.min-n.ensures) in record {
      within = omega arith;
      put = subst (Appends (g.S.Sink.taken c.args.sink.now) (g.S.Sink.taken c.put_all.new.sink)) (blanks_more c.args.count c.runs.rest c.min-n.result short some before.within)
          (Appends-trans _ _ _ _ _ before.put c.in_ok-put_all.ensures.writes);
      sound = c.in_ok-put_all.ensures.failures ∙ before.sound;
    }

pub returns-in_err-put_all-clause-writes : goal.returns-in_err-put_all-clause-writes
returns-in_err-put_all-clause-writes g c =
    let before = c.runs.invariant in
    let short : c.min-n.result ≤ 256 = omega (arith, c.min-n.ensures) in
    let some : c.min-n.result ≤ c.runs.rest = omega (arith, c.min-n.ensures) in
    let exit = err_from_is_err_and c.from_residual.result c.from_residual.ensures.1 in
    rw exit.1 (subst (AppendsFront (g.S.Sink.taken c.args.sink.now) (g.S.Sink.taken c.put_all.new.sink)) (blanks_split c.args.count c.runs.rest c.min-n.result short some before.within)
    (AppendsFront-after _ _ _ _ _ _ before.put c.in_err-put_all.ensures.writes))
