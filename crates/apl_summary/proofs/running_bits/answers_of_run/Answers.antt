use Rattle.std.proofs.Common.{◌≡◌, ◌-◌, true, to_z, of_z, w64, refl, sym, ◌∙◌, rules, arith}
use Rattle.apl_scalar.specs.Scalar.{is_one}
use Rattle.apl_summary.specs.Answers.{is_two_valued}
use Rattle.apl_summary.proofs.BitRuns.{summary_with_last}
use Rattle.apl_summary.proofs.running_bits.answers_of_run.Goals as goal

pub returns : goal.returns
returns g c =
    let f = g.P.Function.FUNCTION in
    let outcome = g.K.Kernel.outcome c.args.kernel.now in
    let bits = c.in_ok-bits.bits in
    let two : is_two_valued f ≡ true = search rules in
    let kept : to_z w64 (of_z w64 c.in-Ok.last) ≡ c.in-Ok.last = search rules in
    let n = c.args.to - c.args.from in
    let kept_zero : to_z w64 (of_z w64 bits.for_zero) ≡ bits.for_zero = search rules in
    let kept_one : to_z w64 (of_z w64 bits.for_one) ≡ bits.for_one = search rules in
    let zero : c.is_one.result ≡ is_one bits.for_zero = c.is_one.ensures ∙ rw kept_zero refl in
    let one : c.is_one-2.result ≡ is_one bits.for_one = c.is_one-2.ensures ∙ rw kept_one refl in
    let all = summary_with_last outcome c.args.from f (c.args.to - 1) c.args.to n c.in-Ok.last (is_one bits.for_zero) (is_one bits.for_one) two (omega (arith, c.requires.some)) (omega (arith, c.requires.some)) refl (sym c.in-Ok.ensures) c.in_ok-bits.ensures in
    rw (zero, one, kept) all
