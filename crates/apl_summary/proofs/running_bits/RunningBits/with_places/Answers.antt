use Rattle.std.proofs.Common.{◌≡◌, ◌+◌, sym, subst, to_z, of_z, w64, rules, arith}
use Rattle.apl_scalar.specs.Scalar.{is_one}
use Rattle.apl_summary.specs.Fronts.{AreBitsFrom}
use Rattle.apl_summary.proofs.BitRuns.{bits_next}
use Rattle.apl_summary.proofs.running_bits.RunningBits.with_places.Goals as goal

pub loop-offset-init : goal.loop-offset-init
loop-offset-init g c = λ from order bits.
    let none : c.args.place ≡ c.args.place + 0 = omega arith in
    subst (λ n. AreBitsFrom g.P.Function.FUNCTION (g.K.Kernel.outcome c.args.kernel.now) from n (is_one c.args.self.for_zero) (is_one c.args.self.for_one)) none bits

pub loop-offset-preserved : goal.loop-offset-preserved
loop-offset-preserved g c = λ from order before.
    let f = g.P.Function.FUNCTION in
    let outcome = g.K.Kernel.outcome c.args.kernel.now in
    let bits = c.loop-offset.bits in
    let next = c.in_ok-next.next in
    let place = c.args.place + c.loop-offset.offset in
    let one_more : place + 1 ≡ c.args.place + (c.loop-offset.offset + 1) = omega arith in
    let kept : to_z w64 (of_z w64 c.in-Ok.item) ≡ c.in-Ok.item = search rules in
    subst (λ n. AreBitsFrom f outcome from n (is_one next.for_zero) (is_one next.for_one)) one_more
    (bits_next outcome from f place c.in-Ok.item (is_one bits.for_zero) (is_one bits.for_one) (is_one next.for_zero) (is_one next.for_one)
    (omega (arith, order)) (sym c.in-Ok.ensures) (rw kept at c.in_ok-next.ensures.front) (c.loop-offset.invariant from order before))
