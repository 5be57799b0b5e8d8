use Rattle.std.proofs.Common.{◌≡◌, ℕ, pos, ◌+◌, ◌*◌, ◌+ℤ◌, ◌*ℤ◌, FitsSigned, slice_index_or, w64, ap, arith, rules}
use Rattle.apl_reduce.specs.Magnitudes.{meeting_product}
use Rattle.apl_reduce.proofs.NearSums.{both_low, stored, both_runs}
use Rattle.apl_reduce.proofs.ProductSums.{both_fit}
use Rattle.apl_reduce.proofs.product_sums.ProductSum.joined.Goals as goal

pub returns : goal.returns
returns c = λ left right near first count more own others small low_left low_right.
    let sum = c.args.self.now.sum in
    let next = c.args.next.now.sum in
    let number = meeting_product left right first in
    let later = meeting_product left right (first + count) in
    let most = near.left * near.right in
    let lefts = both_low (2 * near.left) c.args.self.now.left c.args.next.now.left low_left in
    let rights = both_low (2 * near.right) c.args.self.now.right c.args.next.now.right low_right in
    let before = own (omega (arith, small)) lefts.0 rights.0 in
    let after = others (omega (arith, small)) lefts.1 rights.1 in
    let fits : FitsSigned w64 sum = search rules in
    let fits_next : FitsSigned w64 next = search rules in
    let next_to : (k : ℕ) → later k ≡ number (count + k) = λ k.
    let place : first + count + k ≡ first + (count + k) = omega arith in
    ap (λ n. slice_index_or left n (pos 0) *ℤ slice_index_or right n (pos 0)) place in
    both_runs number most later count more sum next _ next_to before after
    (stored (λ y z. y +ℤ z) sum next _ fits fits_next c.wrapped_sum.ensures (both_fit number later most count more sum next before after small))
