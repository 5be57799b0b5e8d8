use Rattle.std.proofs.Common.{◌≡◌, ◌++◌, replicate, string_bytes, encode_utf8_all, ap, ◌∙◌, arith}
use Rattle.std.specs.Prelude.{encode_utf8}
use Rattle.apl_print.proofs.TextLemmas.{encodes_more}
use Rattle.apl_print.proofs.rows.push_run.Goals as goal

pub run-preserved : goal.run-preserved
run-preserved c =
    c.in_ok-push.ensures.bytes ∙ ap (λ bytes. bytes ++ encode_utf8 c.args.character) c.run.invariant
    ∙ encodes_more (string_bytes c.args.text.now) c.args.character c.run._i

pub returns : goal.returns
returns c =
    let e : c.run._i ≡ c.args.count = omega arith in
    c.run.invariant ∙ ap (λ n. string_bytes c.args.text.now ++ encode_utf8_all (replicate n c.args.character)) e
