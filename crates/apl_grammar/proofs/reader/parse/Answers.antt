use Rattle.std.proofs.Common.{◌∙◌, ap, sym, Err, arith}
use Rattle.apl_grammar.proofs.HasRead.{HasRead-stuck, HasRead-early, empty_list}
use Rattle.apl_grammar.proofs.reader.parse.Goals as goal

pub returns-in-Err-Syntax-clause-err : goal.returns-in-Err-Syntax-clause-err
returns-in-Err-Syntax-clause-err c =
    HasRead-stuck _ _ _ _ _ _ c.in-Some.ensures.items c.loop-token.invariant (c.take.ensures.err (c.in-Err-Syntax.is ∙ ap Err c.in-Err-Syntax.field-0-is))

pub returns-in-Err-Syntax-finish-clause-err : goal.returns-in-Err-Syntax-finish-clause-err
returns-in-Err-Syntax-finish-clause-err c =
    HasRead-early _ _ _ _ (omega (arith, c.args.tokens.ok.0)) (empty_list _ (sym c.loop-token.rest.ok.0 ∙ c.in_default-pop.ensures.cases.0)) c.loop-token.invariant (c.finish.ensures.err (c.in-Err-Syntax-finish.is ∙ ap Err c.in-Err-Syntax-finish.field-0-is))
