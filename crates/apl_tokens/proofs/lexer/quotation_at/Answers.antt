use Rattle.std.proofs.Common.{◌-◌, take, drop, length, arith, length-take, length-drop}
use Rattle.apl_tokens.proofs.Runs.{rest_of}
use Rattle.apl_tokens.proofs.OneToken.{quotation_more, quotation_closed, quotation_open}
use Rattle.apl_tokens.proofs.lexer.quotation_at.Goals as goal

pub returns-in_default-clause-closed : goal.returns-in_default-clause-closed
returns-in_default-clause-closed c =
    let text = c.args.text.now in
    let len = c.loop-length.length in
    quotation_closed text (take (length text - len) (drop len text)) c.loop-length.characters.items len (rest_of text len) c.loop-length-test.true c.loop-length.invariant.spelled c.in_default.ensures.none

pub loop-length-preserved : goal.loop-length-preserved
loop-length-preserved c =
    let text = c.args.text.now in
    let len = c.loop-length.length in
    let found = c.in-Some.ensures.found in
    record {
      within = omega (arith, found.within, c.loop-length-test.true, length-take (length text - len) (drop len text), length-drop len text);
      spelled = quotation_more text (take (length text - len) (drop len text)) c.loop-length.characters.items c.push.new.self.items len c.in-Some.n c.index-text-length.result
          (rest_of text len) c.in_ok-push.ensures.items c.loop-length-test.true c.index-text-length.is c.loop-length.invariant.spelled found;
    }

pub returns-clause-unclosed : goal.returns-clause-unclosed
returns-clause-unclosed c = quotation_open c.args.text.now c.loop-length.characters.items c.loop-length.length c.loop-length-test.false c.loop-length.invariant.spelled
