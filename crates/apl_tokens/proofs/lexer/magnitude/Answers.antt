use Rattle.std.proofs.Common.{arith, ◌^◌}
use Rattle.apl_tokens.proofs.Runs.{number_beyond}
use Rattle.apl_tokens.proofs.lexer.magnitude.Goals as goal

pub returns-then-n-digit-clause-none : goal.returns-then-n-digit-clause-none
returns-then-n-digit-clause-none c =
    number_beyond c.args.digits.now c.loop-c.n c.loop-c.c-index c.c-item.result (2 ^ 63) c.loop-c-test.true c.loop-c.invariant.so_far c.c-item.is
    (omega (arith, c.from.ensures, c.from-digit.ensures, c.if-n-digit.true))
