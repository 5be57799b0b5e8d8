use Rattle.std.proofs.Common.{arith, sym, ◌∙◌}
use Rattle.apl_tokens.specs.Symbols.{is_digit}
use Rattle.apl_syntax.proofs.Words.{AllPass-more}
use Rattle.apl_syntax.proofs.Numbers.{no_digits, beyond, one_more}
use Rattle.apl_syntax.proofs.commands.number.Goals as goal

pub returns-then-not-is_digit-clause-none : goal.returns-then-not-is_digit-clause-none
returns-then-not-is_digit-clause-none c =
    λ n is. absurd (no_digits c.args.argument.now c.loop-c.c-index c.c-item.result c.loop-c-test.true c.c-item.is (sym c.is_digit.ensures ∙ c.if-not-is_digit.true) n is)

pub returns-then-number-digit-gt255-clause-none : goal.returns-then-number-digit-gt255-clause-none
returns-then-number-digit-gt255-clause-none c =
    beyond c.args.argument.now c.loop-c.number c.loop-c.c-index c.c-item.result 255 c.loop-c-test.true c.loop-c.invariant.so_far c.c-item.is (omega (arith, c.from-digit.ensures, c.if-number-digit-gt255.true))

pub loop-c-preserved : goal.loop-c-preserved
loop-c-preserved c = record {
  so_far = one_more c.args.argument.now c.loop-c.number c.loop-c.c-index c.c-item.result c.from-digit.result c.loop-c-test.true c.loop-c.invariant.so_far c.c-item.is c.from-digit.ensures;
  digits = AllPass-more is_digit c.args.argument.now c.loop-c.c-index c.c-item.result c.loop-c-test.true c.loop-c.invariant.digits c.c-item.is (sym c.is_digit.ensures ∙ c.if-not-is_digit.false);
  small = omega (arith, c.if-number-digit-gt255.false);
}
