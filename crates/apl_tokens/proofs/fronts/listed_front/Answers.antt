use Rattle.std.proofs.Common.{sym, ◌∙◌, arith}
use Rattle.std.specs.Str.Iter.{chars_rest}
use Rattle.apl_tokens.proofs.Texts.{ListsUpTo-more, ListsUpTo-fits}
use Rattle.apl_tokens.proofs.fronts.listed_front.Goals as goal

pub overflow_add-characters : goal.overflow_add-characters
overflow_add-characters c =
    omega (arith, ListsUpTo-fits c.args.text.now (chars_rest c.loop-c.c-iterator) (chars_rest c.next.new.self) c.loop-c.bytes c.loop-c.characters c.in-Some.c c.loop-c.invariant c.in-Some.ensures.steps.0)

pub loop-c-preserved : goal.loop-c-preserved
loop-c-preserved c =
    ListsUpTo-more c.args.text.now (chars_rest c.loop-c.c-iterator) (chars_rest c.next.new.self) c.loop-c.bytes c.loop-c.characters c.in-Some.c c.len_utf8-bytes.result
    c.loop-c.invariant c.in-Some.ensures.steps.0 (sym c.is_listed.ensures ∙ c.if-not-is_listed.false) c.len_utf8-bytes.ensures.len
