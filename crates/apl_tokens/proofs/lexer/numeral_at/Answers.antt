use Rattle.std.proofs.Common.{◌-◌, take, drop, length, List, ℕ}
use Rattle.apl_tokens.proofs.Runs.{signed, plain_at, negative_at, positive}
use Rattle.apl_tokens.proofs.lexer.numeral_at.Goals as goal

pub returns-then-text-eq175-clause-found : goal.returns-then-text-eq175-clause-found
returns-then-text-eq175-clause-found c =
    let t = c.args.text.now in
    let rest : List ℕ = take (length t - 1) (drop 1 t) in
    negative_at t rest c.run_length-digits.result c.number-number.result (signed t c.index-text-0.result (positive _ c.if-not-is_empty.ensures) c.index-text-0.is c.if-text-eq175.true)
    c.run_length-digits.ensures.within c.if-digits-eq0.false c.run_length-digits.ensures.front c.run_length-digits.ensures.longest c.number-number.ensures

pub returns-clause-found : goal.returns-clause-found
returns-clause-found c =
    plain_at c.args.text.now c.run_length-digits-2.result c.number-number-2.result c.run_length-digits-2.ensures.within c.if-digits-eq0-2.false c.run_length-digits-2.ensures.front c.run_length-digits-2.ensures.longest c.number-number-2.ensures
