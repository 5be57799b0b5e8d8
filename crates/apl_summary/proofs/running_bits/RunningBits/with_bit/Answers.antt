use Rattle.std.proofs.Common.{◌≡◌, ℤ, Ok, to_z, of_z, w64, refl, sym, ap, ◌∙◌, rules}
use Rattle.apl_pool.specs.Summaries.{fold_onto}
use Rattle.apl_scalar.specs.Scalar.{bit, is_one, dyadic_numbers}
use Rattle.apl_summary.proofs.Fronts.{answer_for, at_bit}
use Rattle.apl_summary.proofs.running_bits.RunningBits.with_bit.Goals as goal

pub returns-clause-value : goal.returns-clause-value
returns-clause-value g c = λ xs are.
    let f = g.P.Function.FUNCTION in
    let zero = is_one c.args.self.now.for_zero in
    let one = is_one c.args.self.now.for_one in
    let item = c.args.item in
    let kept : to_z w64 (of_z w64 item) ≡ item = search rules in
    let stored : to_z w64 (of_z w64 c.answer-value.result) ≡ c.answer-value.result = search rules in
    ap (fold_onto (dyadic_numbers f) xs) c.requires
    ∙ at_bit f zero one (is_one item) xs are
    ∙ ap (λ x. Ok (bit (answer_for zero one x))) (sym c.requires)
    ∙ ap (λ (z : ℤ). Ok z) (sym (stored ∙ c.answer-value.ensures ∙ rw (c.is_one.ensures, kept) refl))

pub returns-clause-front : goal.returns-clause-front
returns-clause-front g c = λ xs are.
    let kept : to_z w64 (of_z w64 c.args.item) ≡ c.args.item = search rules in
    let zero = c.in_ok-answer_behind.field-0 in
    let one = c.in_ok-answer_behind-2.field-0 in
    let stored_zero : to_z w64 (of_z w64 zero) ≡ zero = search rules in
    let stored_one : to_z w64 (of_z w64 one) ≡ one = search rules in
    let for_zero = c.in_ok-answer_behind.ensures in
    let for_one = c.in_ok-answer_behind-2.ensures in
    rw (stored_zero, stored_one) (record {
      zero_is = rw kept at (for_zero.fold xs are) ∙ ap (λ (z : ℤ). Ok z) for_zero.bit;
      one_is = rw kept at (for_one.fold xs are) ∙ ap (λ (z : ℤ). Ok z) for_one.bit;
    })
