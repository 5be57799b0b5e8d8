use Rattle.std.proofs.Common.{◌≡◌, true, to_z, of_z, w64, refl, sym, ap, ◌∙◌, rules}
use Rattle.std.specs.Prelude.{Ok}
use Rattle.apl_scalar.specs.Scalar.{is_one, dyadic_numbers}
use Rattle.apl_summary.specs.Answers.{is_two_valued}
use Rattle.apl_summary.proofs.Fronts.{bit_is, bits_front}
use Rattle.apl_summary.proofs.running_bits.RunningBits.answer_behind.Goals as goal

pub returns-in-Ok-clause-bit : goal.returns-in-Ok-clause-bit
returns-in-Ok-clause-bit g c =
    let stored : to_z w64 (of_z w64 c.answer.result) ≡ c.answer.result = search rules in
    bit_is _ (to_z w64 (of_z w64 c.answer.result)) (stored ∙ c.answer.ensures)

pub returns-in-Ok-clause-fold : goal.returns-in-Ok-clause-fold
returns-in-Ok-clause-fold g c = λ numbers are.
    let self = c.args.self.now in
    let item : to_z w64 (of_z w64 c.args.item) ≡ c.args.item = search rules in
    let right : to_z w64 (of_z w64 c.args.right) ≡ c.args.right = search rules in
    let is : dyadic_numbers g.P.Function.FUNCTION c.args.item c.args.right ≡ Ok c.in-Ok.value = sym (rw (item, right) at c.in-Ok.ensures) in
    let two : is_two_valued g.P.Function.FUNCTION ≡ true = g.met.P.TwoValuedFunction.two_valued in
    let value : to_z w64 (of_z w64 c.in-Ok.value) ≡ c.in-Ok.value = search rules in
    let stored : to_z w64 (of_z w64 c.answer.result) ≡ c.answer.result = search rules in
    bits_front g.P.Function.FUNCTION (is_one self.for_zero) (is_one self.for_one) c.args.item c.args.right c.in-Ok.value numbers two is are
    ∙ ap (λ z. Ok z) (sym (stored ∙ c.answer.ensures ∙ rw (c.is_one.ensures, value) refl))
