use Rattle.std.proofs.Common.{◌-◌, ◌+◌, take, drop, length, sym, ◌∙◌, arith, length-take, length-drop}
use Rattle.apl_tokens.specs.Stops.{IsLexicalStopOf}
use Rattle.apl_tokens.proofs.Runs.{rest_of}
use Rattle.apl_tokens.proofs.Stopped.{err_is}
use Rattle.apl_tokens.proofs.Lines.{LexesUpTo-start, LexesUpTo-next, stop_of}
use Rattle.apl_tokens.proofs.lexer.tokens.Goals as goal

pub loop-column-init : goal.loop-column-init
loop-column-init c =
    let run = c.run_length-column in
    record {
      within = run.ensures.within;
      before = LexesUpTo-start c.args.characters.now c.in_ok-tokens.tokens.items run.result c.in_ok-tokens.ensures.items run.ensures.within run.ensures.front run.ensures.longest;
    }

pub returns-in_err-token-clause-stop : goal.returns-in_err-token-clause-stop
returns-in_err-token-clause-stop c =
    let cs = c.args.characters.now in
    let column = c.loop-column.column in
    let stop = c.in_err-token.field-0.0 in
    err_is c.from_residual-in_err-token.result stop (IsLexicalStopOf cs) c.from_residual-in_err-token.ensures.1
    (stop_of cs c.loop-column.tokens.items column c.index-characters-column.result (take (length cs - column) (drop column cs)) stop (rest_of cs column) c.loop-column-test.true c.index-characters-column.is
    (sym c.is_comment_mark.ensures ∙ c.if-not-is_comment_mark.true) c.loop-column.invariant.before c.in_err-token.ensures.stop)

pub loop-column-preserved : goal.loop-column-preserved
loop-column-preserved c =
    let cs = c.args.characters.now in
    let column = c.loop-column.column in
    let token = c.in_ok-token.token in
    let run = c.run_length-column-in-loop-column in
    record {
      within = omega (arith, run.ensures.within, c.in_ok-token.ensures.token.within, c.loop-column-test.true, length-take (length cs - (column + token.length)) (drop (column + token.length) cs), length-drop (column + token.length) cs, length-take (length cs - column) (drop column cs), length-drop column cs);
      before = LexesUpTo-next cs c.loop-column.tokens.items c.push.new.self.items column token.length run.result (take (length cs - column) (drop column cs)) (take (length cs - (column + token.length)) (drop (column + token.length) cs)) token.kind
          (rest_of cs column) (rest_of cs (column + token.length)) c.in_ok-push.ensures.items c.loop-column.invariant.before c.in_ok-token.ensures.token run.ensures.within run.ensures.front run.ensures.longest;
    }
