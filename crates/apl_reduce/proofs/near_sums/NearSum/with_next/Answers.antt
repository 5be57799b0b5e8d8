use Rattle.std.proofs.Common.{◌≡◌, ◌^◌, ◌<◌, pos, ◌+ℤ◌, FitsSigned, to_z, of_z, w64, subst, ap, ◌∙◌, arith, rules, map}
use Rattle.std.proofs.lemmas.Int.{to_z-of_z}
use Rattle.apl_reduce.specs.Magnitudes.{spaced_number}
use Rattle.apl_reduce.proofs.Distances.{sum_near}
use Rattle.apl_reduce.proofs.NearSums.{both_low, near_from_above, stored, sum_is_near, one_more}
use Rattle.apl_reduce.proofs.near_sums.NearSum.with_next.Goals as goal

pub returns : goal.returns
returns g c = λ few sum low.
    let numbers = map g.T.Numeric.number_in c.args.numbers.now in
    let count = c.args.count in
    let total = c.args.self.now.sum in
    let above = c.above_least.result in
    let number = spaced_number numbers c.args.first c.args.step in
    let x = number count in
    let at_most : count < 65536 = omega (arith, few) in
    let both = both_low (2 ^ 47) c.args.self.now.bits above low in
    let before = sum both.0 in
    let fits_total : FitsSigned w64 total = search rules in
    let read : c.number_at-number.result ≡ x = c.number_at-number.ensures in
    let fits : FitsSigned w64 x = subst (FitsSigned w64) read (search rules) in
    let there : to_z w64 (of_z w64 c.number_at-number.result) ≡ x = ap (λ z. to_z w64 (of_z w64 z)) read ∙ to_z-of_z w64 x fits in
    let near = near_from_above (2 ^ 46) above x (λ own. subst (λ z. pos above ≡ z +ℤ pos (2 ^ 46)) there (c.above_least.ensures.near own)) both.1 in
    let size = sum_is_near number (2 ^ 46) count total before in
    one_more number (2 ^ 46) count total _ before near
    (stored (λ y z. y +ℤ z) total x _ fits_total fits (rw read at c.wrapped_sum.ensures) (omega (arith, at_most, size, near, sum_near total x)))
