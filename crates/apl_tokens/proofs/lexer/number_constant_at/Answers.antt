use Rattle.std.proofs.Common.{arith, rules, ◌≡◌, ◌∙◌, sym, subst, None, Option, ◌∷◌, []}
use Rattle.std.specs.Prelude.{ℤ}
use Rattle.apl_array.specs.Array.{number_array}
use Rattle.apl_tokens.specs.declared.lexer.LexicalStop.TheVariants.{Memory}
use Rattle.apl_tokens.specs.declared.token.TokenKind.TheVariants.{Constant}
use Rattle.apl_tokens.specs.Scans.{IsTokenAt, IsStopAt}
use Rattle.apl_tokens.proofs.Stopped.{err_is}
use Rattle.apl_tokens.specs.Lexis.{HasNoNextNumeral}
use Rattle.apl_tokens.specs.Scans.{IsNumeralAt}
use Rattle.apl_tokens.proofs.Runs.{rest_of}
use Rattle.apl_tokens.proofs.OneToken.{beyond_count, vector_token, one_number, one_beyond}
use Rattle.apl_tokens.proofs.lexer.number_constant_at.Goals as goal

pub returns-in_err-row-clause-stop : goal.returns-in_err-row-clause-stop
returns-in_err-row-clause-stop c = err_is c.from_residual.result Memory (IsStopAt c.args.text.now c.args.column) c.from_residual.ensures.1 tt

pub returns-then-row-gt-MOST_ELEMENTS-clause-stop : goal.returns-then-row-gt-MOST_ELEMENTS-clause-stop
returns-then-row-gt-MOST_ELEMENTS-clause-stop c =
    let row = c.in_ok-row.row in
    let is = c.in_ok-row.ensures in
    (0, beyond_count c.args.text.now row.length row.count row.beyond row.values.items is.row is.ends c.if-row-gt-MOST_ELEMENTS.true, omega arith)

pub returns-clause-token : goal.returns-clause-token
returns-clause-token c =
    let row = c.in_ok-row.row in
    let is = c.in_ok-row.ensures in
    let none : row.beyond ≡ None = search rules in
    subst (λ v. IsTokenAt c.args.text.now row.length (Constant v)) (sym (c.in_ok-constant.ensures ∙ c.number_vector.ensures))
    (vector_token c.args.text.now row.length row.count row.values.items (rw none at is.row) is.ends (search rules) is.several)

pub returns-in-Some-number-clause-token : goal.returns-in-Some-number-clause-token
returns-in-Some-number-clause-token c =
    let text = c.args.text.now in
    let len = c.args.first.length in
    let number = c.in-Some-number.number in
    let is : c.number.result ≡ number_array [] (number ∷ []) = search rules in
    subst (λ v. IsTokenAt text len (Constant v)) (sym is)
    (one_number text len number (subst (λ (n : Option ℤ). IsNumeralAt text len n) c.in-Some-number.is c.requires.numeral) (subst HasNoNextNumeral (rest_of text len) c.in_default.ensures.none))

pub returns-in-None-clause-stop : goal.returns-in-None-clause-stop
returns-in-None-clause-stop c =
    let text = c.args.text.now in
    let len = c.args.first.length in
    (0, one_beyond text len (subst (λ (n : Option ℤ). IsNumeralAt text len n) c.in-None.is c.requires.numeral) (subst HasNoNextNumeral (rest_of text len) c.in_default.ensures.none), omega arith)
