use Rattle.std.proofs.Common.{◌≡◌, ◌+◌, ◌-◌, ◌*◌, ◌%◌, subst, arith}
use Rattle.std.proofs.lemmas.Option.{IfSome_then}
use Rattle.apl_scalar.specs.Scalar.{is_one}
use Rattle.apl_summary.specs.Fronts.{AreBitsFrom}
use Rattle.apl_summary.proofs.BitRuns.{no_bits}
use Rattle.apl_summary.proofs.running_bits.RunningBits.of_places.Goals as goal

pub loop-turn-init : goal.loop-turn-init
loop-turn-init g c =
    let f = g.P.Function.FUNCTION in
    let outcome = g.K.Kernel.outcome c.args.kernel.now in
    let bits = c.none-bits.result in
    let none : c.args.from ≡ c.args.from + 0 * 4 = omega arith in
    subst (λ n. AreBitsFrom f outcome c.args.from n (is_one bits.for_zero) (is_one bits.for_one)) none (no_bits outcome c.args.from f (is_one bits.for_zero) (is_one bits.for_one) c.none-bits.ensures)

pub loop-turn-preserved : goal.loop-turn-preserved
loop-turn-preserved g c =
    let next = c.in_ok-next.next in
    let more : c.args.from + c.loop-turn.turn * 4 + 4 ≡ c.args.from + (c.loop-turn.turn + 1) * 4 = omega arith in
    subst (λ n. AreBitsFrom g.P.Function.FUNCTION (g.K.Kernel.outcome c.args.kernel.now) c.args.from n (is_one next.for_zero) (is_one next.for_one)) more
    (c.in_ok-next.ensures c.args.from (omega arith) c.loop-turn.invariant)

pub returns : goal.returns
returns g c =
    let f = g.P.Function.FUNCTION in
    let outcome = g.K.Kernel.outcome c.args.kernel.now in
    let bits = c.loop-turn.bits in
    let rest = (c.args.to - c.args.from) % 4 in
    let start : c.args.from + c.loop-turn.turn * 4 ≡ c.args.to - rest = omega arith in
    let end : c.args.to - rest + rest ≡ c.args.to = omega arith in
    IfSome_then c.with_places-2.result c.with_places-2.ensures
    (λ s p. subst (λ n. AreBitsFrom f outcome c.args.from n (is_one s.for_zero) (is_one s.for_one)) end
    (p c.args.from (omega arith) (subst (λ n. AreBitsFrom f outcome c.args.from n (is_one bits.for_zero) (is_one bits.for_one)) start c.loop-turn.invariant)))
