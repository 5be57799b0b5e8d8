use Rattle.std.proofs.Common.{◌≡◌, ◌+◌, ◌*◌, ◌≤◌, pos, suc, map, slice_index_or, ◌+ℤ◌, FitsSigned, to_z, of_z, w64, sym, ap, subst, ◌∙◌, arith, rules}
use Rattle.std.specs.Prelude.{bit_or, unsigned_abs}
use Rattle.std.proofs.lemmas.Int.{to_z-of_z}
use Rattle.apl_reduce.specs.Magnitudes.{above}
use Rattle.apl_reduce.specs.StretchSums.{joined_bits, number_from}
use Rattle.apl_reduce.proofs.Distances.{sum_near}
use Rattle.apl_reduce.proofs.NearSums.{both_low, near_from_above, stored, sum_is_near, one_more}
use Rattle.apl_reduce.proofs.stretch_sums.with_next.Goals as goal

pub returns : goal.returns
returns g c = λ first count there before.
    let numbers = map g.T.Numeric.number_in c.args.numbers.now in
    let near = c.args.near in
    let bits = c.args.sum.bits in
    let counted = c.above_least.result in
    let total = c.args.sum.sum in
    let number = number_from numbers first in
    let x = slice_index_or numbers c.args.place (pos 0) in
    let is : c.number_at-number.result ≡ x = c.number_at-number.ensures in
    let fits : FitsSigned w64 x = subst (FitsSigned w64) is (search rules) in
    let fits_total : FitsSigned w64 total = search rules in
    let read : to_z w64 (of_z w64 c.number_at-number.result) ≡ x = ap (λ z. to_z w64 (of_z w64 z)) is ∙ to_z-of_z w64 x fits in
    let here : x ≡ number count = ap (λ i. slice_index_or numbers i (pos 0)) (sym there) in
    let more : suc count ≡ count + 1 = omega arith in
    record {
      bits = ap (bit_or bits) (c.above_least.ensures.exact ∙ ap (above near) (read ∙ here)) ∙ ap (λ b. bit_or b (above near (number count))) before.bits ∙ ap (joined_bits near number) more;
      sum = λ small low.
          let both = both_low (2 * near) bits counted low in
          let so_far = before.sum (omega (arith, small)) both.0 in
          let own = near_from_above near counted x (λ low. subst (λ z. pos counted ≡ z +ℤ pos near) read (c.above_least.ensures.near low)) both.1 in
          let size = sum_is_near number near count total so_far in
          one_more number near count total _ so_far (subst (λ z. unsigned_abs z ≤ near) here own)
          (stored (λ y z. y +ℤ z) total x _ fits_total fits (rw is at c.wrapped_sum.ensures) (omega (arith, small, size, own, sum_near total x)) ∙ ap (λ z. total +ℤ z) here);
    }
