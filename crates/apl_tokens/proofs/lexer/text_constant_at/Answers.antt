use Rattle.std.proofs.Common.{refl, sym, ◌∙◌, subst, ◌-◌, ◌+◌, take, drop, length, arith, rules}
use Rattle.apl_tokens.specs.declared.token.TokenKind.TheVariants.{Constant}
use Rattle.apl_tokens.specs.Scans.{IsTokenAt}
use Rattle.apl_tokens.proofs.OneToken.{behind_quote, text_token, text_beyond, open_token, open_limit}
use Rattle.apl_tokens.proofs.lexer.text_constant_at.Goals as goal

pub returns-in_default-clause-stop : goal.returns-in_default-clause-stop
returns-in_default-clause-stop c =
    let text = c.args.text.now in
    let rest = take (length text - 1) (drop 1 text) in
    let unclosed = rw c.in_default.is at c.in_ok-quotation.ensures.unclosed in
    (refl, open_token text rest (behind_quote text c.requires) unclosed, open_limit text rest (behind_quote text c.requires) unclosed)

pub returns-then-len-gt-MOST_ELEMENTS-clause-stop : goal.returns-then-len-gt-MOST_ELEMENTS-clause-stop
returns-then-len-gt-MOST_ELEMENTS-clause-stop c =
    let text = c.args.text.now in
    let q = c.in-Some.quotation in
    let closed = rw c.in-Some.is at c.in_ok-quotation.ensures.closed in
    (0, text_beyond text (take (length text - 1) (drop 1 text)) q.characters.items q.length (behind_quote text c.requires) closed (search rules), omega arith)

pub returns-clause-token : goal.returns-clause-token
returns-clause-token c =
    let text = c.args.text.now in
    let q = c.in-Some.quotation in
    let closed = rw c.in-Some.is at c.in_ok-quotation.ensures.closed in
    subst (λ v. IsTokenAt text (q.length + 1) (Constant v)) (sym (c.in_ok-constant.ensures ∙ c.character_array.ensures))
    (text_token text (take (length text - 1) (drop 1 text)) q.characters.items q.length (behind_quote text c.requires) closed (search rules))
