use Rattle.std.proofs.Common.{subst, List, ℕ}
use Rattle.apl_tokens.specs.Scans.{IsNumeralAt, HasNoNumeral}
use Rattle.apl_tokens.proofs.Runs.{blanks, no_next, rest_of}
use Rattle.apl_tokens.proofs.lexer.next_numeral.Goals as goal

pub returns-in-Some-clause-found : goal.returns-in-Some-clause-found
returns-in-Some-clause-found c =
    let text : List ℕ = c.args.text.now in
    let gap : ℕ = c.run_length-gap.result in
    record {
      within = c.run_length-gap.ensures.within;
      blank = blanks text gap c.run_length-gap.ensures.within c.if-gap-eq0.false c.run_length-gap.ensures.front;
      numeral = subst (λ (rest : List ℕ). IsNumeralAt rest c.in-Some.numeral.length c.in-Some.numeral.number) (rest_of text gap) c.in-Some.ensures.found;
    }

pub returns-in-None-clause-none : goal.returns-in-None-clause-none
returns-in-None-clause-none c =
    let text : List ℕ = c.args.text.now in
    let gap : ℕ = c.run_length-gap.result in
    no_next text gap c.run_length-gap.ensures.front c.run_length-gap.ensures.longest (subst HasNoNumeral (rest_of text gap) c.in-None.ensures.none)
