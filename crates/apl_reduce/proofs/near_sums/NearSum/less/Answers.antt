use Rattle.std.proofs.Common.{◌+◌, ◌^◌, ◌≤◌, ℤ, ◌+ℤ◌, ◌-ℤ◌, Ok, FitsSigned, w64, sym, ap, ◌∙◌, arith, rules}
use Rattle.apl_reduce.specs.Magnitudes.{spaced_number}
use Rattle.apl_reduce.proofs.NearFolds.{difference_near, near_minus}
use Rattle.apl_reduce.proofs.NearSums.{both_low, stored, sum_is_near}
use Rattle.apl_reduce.proofs.near_sums.NearSum.less.Goals as goal

pub returns : goal.returns
returns c = λ numbers first pairs few own others low total small.
    let sum = c.args.self.now.sum in
    let other = c.args.seconds.now.sum in
    let at_most : pairs ≤ 32768 = omega (arith, few) in
    let both = both_low (2 ^ 47) c.args.self.now.bits c.args.seconds.now.bits low in
    let left = own both.0 in
    let right = others both.1 in
    let fits : FitsSigned w64 sum = search rules in
    let fits_other : FitsSigned w64 other = search rules in
    near_minus c.range_is_decided.ensures.decided c.range_is_decided.ensures.bits numbers first pairs sum other total at_most left right small
    ∙ ap (λ (z : ℤ). Ok (total +ℤ z)) (sym (stored (λ y z. y -ℤ z) sum other _ fits fits_other c.wrapped_difference.ensures
    (omega (arith, at_most, sum_is_near (spaced_number numbers first 2) (2 ^ 46) pairs sum left, sum_is_near (spaced_number numbers (first + 1) 2) (2 ^ 46) pairs other right, difference_near sum other))))
