use Rattle.std.proofs.Common.{◌∙◌, ap, sym, ◌++◌}
use Rattle.std.specs.Prelude.{encode_utf8_all}
use Rattle.std.specs.Str.Iter.{chars_rest}
use Rattle.apl_tokens.proofs.Texts.{Encodes-more, Encodes-all}
use Rattle.apl_tokens.proofs.fronts.characters_of.Goals as goal

pub loop-c-preserved : goal.loop-c-preserved
loop-c-preserved c =
    Encodes-more c.args.text.now (chars_rest c.loop-c.c-iterator) (chars_rest c.next.new.self) c.loop-c.characters.items c.in-Some.c c.loop-c.invariant c.in-Some.ensures.steps.0
    ∙ ap (λ cs. encode_utf8_all cs ++ chars_rest c.next.new.self) (sym c.in_ok-push.ensures.items)

pub returns : goal.returns
returns c = Encodes-all c.args.text.now (chars_rest c.loop-c.c-iterator) c.loop-c.characters.items c.utf8.text c.loop-c.invariant c.in-None.ensures.steps.0.0
