use Rattle.std.proofs.Common.{◌∙◌, ap, sym, ◌++◌}
use Rattle.std.specs.Prelude.{encode_utf8}
use Rattle.apl_tokens.proofs.Texts.{encodes_more}
use Rattle.apl_tokens.proofs.lexer.name_of.Goals as goal

pub loop-c-preserved : goal.loop-c-preserved
loop-c-preserved c =
    c.in_ok-push.ensures.bytes ∙ ap (λ x. x ++ encode_utf8 c.c-item.result) c.loop-c.invariant
    ∙ sym (encodes_more c.args.characters.now c.loop-c.c-index c.c-item.result c.loop-c-test.true c.c-item.is)
