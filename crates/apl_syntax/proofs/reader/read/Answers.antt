use Rattle.std.proofs.Common.{subst, List}
use Rattle.std.specs.Prelude.{ℕ}
use Rattle.apl_tokens.specs.Lexis.{Lexes}
use Rattle.apl_syntax.specs.Commands.{IsCommandLine}
use Rattle.apl_syntax.proofs.Parsed.{read_line, read_stop}
use Rattle.apl_syntax.proofs.reader.read.Goals as goal

pub returns-in-Ok-tokens-clause-line : goal.returns-in-Ok-tokens-clause-line
returns-in-Ok-tokens-clause-line c =
    let lexed = subst (λ (x : List ℕ). Lexes x c.in-Ok-tokens.tokens.items) c.as_slice-2.ensures.value c.in-Ok-tokens.ensures.tokens in
    let other = subst (λ (x : List ℕ). IsCommandLine x → ⊥) c.as_slice.ensures.value c.in_default.ensures.none in
    read_line c.args.line.now c.in-Ok.characters.items c.in-Ok-tokens.tokens.items c.in-Ok.ensures.listed other lexed (c.one_reading.ensures c.args.line.now) c.parsed.result c.parsed.ensures.line

pub returns-in-Ok-tokens-clause-stop : goal.returns-in-Ok-tokens-clause-stop
returns-in-Ok-tokens-clause-stop c =
    let lexed = subst (λ (x : List ℕ). Lexes x c.in-Ok-tokens.tokens.items) c.as_slice-2.ensures.value c.in-Ok-tokens.ensures.tokens in
    let other = subst (λ (x : List ℕ). IsCommandLine x → ⊥) c.as_slice.ensures.value c.in_default.ensures.none in
    read_stop c.args.line.now c.in-Ok.characters.items c.in-Ok-tokens.tokens.items c.in-Ok.ensures.listed other lexed c.parsed.result c.parsed.ensures.stop
