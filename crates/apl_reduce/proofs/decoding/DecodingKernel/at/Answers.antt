use Rattle.std.proofs.Common.{◌≡◌, length, to_z, of_z, w64, FitsSigned, rules, ◌∙◌, arith}
use Rattle.std.proofs.lemmas.Int.{ints, to_z-of_z}
use Rattle.std.proofs.lemmas.Result.{err_from_is_err_and}
use Rattle.apl_reduce.specs.Fronts.{served}
use Rattle.apl_reduce.proofs.Values.{next_kept, next_refused, decoded_all, served_each}
use Rattle.apl_reduce.proofs.decoding.DecodingKernel.at.Goals as goal

pub returns-in_err-value : goal.returns-in_err-value
returns-in_err-value c =
    let kernel = c.args.self.now in
    let n = kernel.count in
    let radices = served n kernel.radices.is_single kernel.radices.numbers.now in
    let digits = served n kernel.digits.is_single kernel.digits.numbers.now in
    let inside = c.loop-k-test.true in
    let radix : to_z w64 (of_z w64 c.at.result) ≡ c.at.result = omega (arith, ints) in
    let digit : to_z w64 (of_z w64 c.at-in-loop-k.result) ≡ c.at-in-loop-k.result = omega (arith, ints) in
    let p = err_from_is_err_and c.from_residual.result c.from_residual.ensures.1 in
    rw (p.1, p.2)
    (next_refused n radices digits c.loop-k.k _ _ _ _ (served_each n _ _ kernel.radices_each) (served_each n _ _ kernel.digits_each) inside c.loop-k.invariant.value (radix ∙ c.at.ensures n inside) (digit ∙ c.at-in-loop-k.ensures n inside)
    c.in_err-value.ensures)

pub loop-k-preserved : goal.loop-k-preserved
loop-k-preserved c =
    let kernel = c.args.self.now in
    let n = kernel.count in
    let radices = served n kernel.radices.is_single kernel.radices.numbers.now in
    let digits = served n kernel.digits.is_single kernel.digits.numbers.now in
    let k = c.loop-k.k in
    let inside = c.loop-k-test.true in
    let radix_each : length radices ≡ n = served_each n _ _ kernel.radices_each in
    let digit_each : length digits ≡ n = served_each n _ _ kernel.digits_each in
    let radix : to_z w64 (of_z w64 c.at.result) ≡ c.at.result = omega (arith, ints) in
    let digit : to_z w64 (of_z w64 c.at-in-loop-k.result) ≡ c.at-in-loop-k.result = omega (arith, ints) in
    let fits : FitsSigned w64 c.in_ok-value.value = search rules in
    let next = next_kept radices digits k _ _ _ c.in_ok-value.value (omega (arith, radix_each)) (omega (arith, digit_each)) c.loop-k.invariant.value
    (radix ∙ c.at.ensures n inside) (digit ∙ c.at-in-loop-k.ensures n inside) c.loop-k.invariant.fronts c.in_ok-value.ensures in
    record { value = to_z-of_z w64 c.in_ok-value.value fits ∙ next.0; fronts = next.1 }

pub returns : goal.returns
returns c =
    let kernel = c.args.self.now in
    let n = kernel.count in
    let radices = served n kernel.radices.is_single kernel.radices.numbers.now in
    let digits = served n kernel.digits.is_single kernel.digits.numbers.now in
    let all : c.loop-k.k ≡ n = omega arith in
    let value = rw all at c.loop-k.invariant.value in
    let fronts = rw all at c.loop-k.invariant.fronts in
    decoded_all n radices digits _ (served_each n _ _ kernel.radices_each) (served_each n _ _ kernel.digits_each) value fronts
