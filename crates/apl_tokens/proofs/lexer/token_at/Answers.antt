use Rattle.std.proofs.Common.{refl, sym, ◌∙◌}
use Rattle.apl_tokens.proofs.OneToken.{name_token, symbol_token, no_token, no_limit}
use Rattle.apl_tokens.proofs.lexer.token_at.Goals as goal

pub returns-then-is_letter-clause-token : goal.returns-then-is_letter-clause-token
returns-then-is_letter-clause-token c =
    let run = c.run_length-length in
    name_token c.args.text.now c.index-text-0.result run.result c.in_ok-name.name c.requires.more c.index-text-0.is (sym c.is_letter.ensures ∙ c.if-is_letter.true) run.ensures.within run.ensures.front run.ensures.longest c.in_ok-name.ensures

pub returns-in-Some-symbol_kind-clause-token : goal.returns-in-Some-symbol_kind-clause-token
returns-in-Some-symbol_kind-clause-token c = symbol_token c.args.text.now c.index-text-0.result c.in-Some-symbol_kind.kind c.requires.more c.index-text-0.is (sym c.symbol_kind.ensures ∙ c.in-Some-symbol_kind.is)

pub returns-in-None-clause-stop : goal.returns-in-None-clause-stop
returns-in-None-clause-stop c =
    let none = c.in_default.ensures.none in
    let unquoted = sym c.is_quote.ensures ∙ c.if-is_quote.false in (
      refl,
      no_token c.args.text.now c.index-text-0.result c.requires.more c.index-text-0.is (sym c.is_letter.ensures ∙ c.if-is_letter.false) unquoted none (sym c.symbol_kind.ensures ∙ c.in-None.is),
      no_limit c.args.text.now c.index-text-0.result c.index-text-0.is unquoted none,
    )
