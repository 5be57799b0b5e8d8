use Rattle.std.proofs.Common.{◌≡◌, ℕ, pos, ◌*◌, ◌+◌, ◌^◌, ◌≤◌, ◌+ℤ◌, FitsSigned, slice_index_or, to_z, of_z, w64, ap, subst, arith, rules}
use Rattle.apl_reduce.specs.Magnitudes.{IsSumNear, spaced_number}
use Rattle.apl_reduce.proofs.Distances.{sum_near}
use Rattle.apl_reduce.proofs.NearSums.{both_low, stored, sum_is_near, both_runs}
use Rattle.apl_reduce.proofs.near_sums.NearSum.joined.Goals as goal

pub returns : goal.returns
returns c = λ numbers first step count few own more low.
    let sum = c.args.self.now.sum in
    let next = c.args.next.now.sum in
    let at_most : 2 * count ≤ 65536 = omega (arith, few) in
    let both = both_low (2 ^ 47) c.args.self.now.bits c.args.next.now.bits low in
    let left = own both.0 in
    let right = more both.1 in
    let fits : FitsSigned w64 sum = search rules in
    let fits_next : FitsSigned w64 next = search rules in
    let twice : count + count ≡ 2 * count = omega arith in
    let number = spaced_number numbers first step in
    let later = spaced_number numbers (first + count * step) step in
    let after : (k : ℕ) → later k ≡ number (count + k) = λ k.
    let place : first + count * step + k * step ≡ first + (count + k) * step = omega arith in
    ap (λ i. slice_index_or numbers i (pos 0)) place in
    subst (λ n. IsSumNear number (2 ^ 46) n (to_z w64 (of_z w64 c.wrapped_sum.result))) twice
    (both_runs number (2 ^ 46) later count count sum next _ after left right
    (stored (λ y z. y +ℤ z) sum next _ fits fits_next c.wrapped_sum.ensures
    (omega (arith, at_most, sum_is_near number (2 ^ 46) count sum left, sum_is_near later (2 ^ 46) count next right, sum_near sum next))))
