use Rattle.std.proofs.Common.{◌≡◌, pos, ◌+◌, ◌^◌, ◌<◌, ◌+ℤ◌, ◌*ℤ◌, FitsSigned, slice_index_or, to_z, of_z, w64, sym, ap, subst, ◌∙◌, rules}
use Rattle.std.specs.Prelude.{unsigned_abs}
use Rattle.apl_reduce.proofs.Distances.{narrow_read, read_narrow}
use Rattle.apl_reduce.proofs.NearSums.{stored}
use Rattle.apl_reduce.proofs.sums.Sums.with_product.Goals as goal

pub returns : goal.returns
returns c = λ small.
    let sums = c.args.self.now in
    let i = c.args.left + c.args.k in
    let j = c.args.right + c.args.k in
    let x = slice_index_or sums.left.now i (pos 0) in
    let y = slice_index_or sums.right.now j (pos 0) in
    let left_narrow = sums.left_narrow c.requires.narrow in
    let right_narrow = sums.right_narrow c.requires.narrow in
    let read_x : to_z w64 (of_z w64 x) ≡ x = narrow_read sums.left.now i left_narrow in
    let read_y : to_z w64 (of_z w64 y) ≡ y = narrow_read sums.right.now j right_narrow in
    let near = c.narrow_product.ensures (read_narrow sums.left.now i left_narrow) (read_narrow sums.right.now j right_narrow) in
    let product : c.narrow_product.result ≡ x *ℤ y = near ∙ ap (λ a. a *ℤ to_z w64 (of_z w64 y)) read_x ∙ ap (λ b. x *ℤ b) read_y in
    let fits : FitsSigned w64 c.args.sum = search rules in
    let fits_product : FitsSigned w64 c.narrow_product.result = search rules in
    let inside : unsigned_abs (c.args.sum +ℤ c.narrow_product.result) < 2 ^ 63 = subst (λ z. unsigned_abs (c.args.sum +ℤ z) < 2 ^ 63) (sym product) small in
    stored (λ a b. a +ℤ b) c.args.sum c.narrow_product.result _ fits fits_product c.wrapped_sum.ensures inside ∙ ap (λ z. c.args.sum +ℤ z) product
