use Rattle.std.proofs.Common.{◌≡◌, IfSome, map, ap, subst, sym, rules}
use Rattle.apl_array.specs.declared.array.Elem.TheVariants.{Int, Chr}
use Rattle.apl_array.specs.Array.{number_array}
use Rattle.apl_reduce.specs.Filled.{IsFilled}
use Rattle.apl_reduce.specs.Layouts.{inner_number}
use Rattle.apl_reduce.proofs.inner_products.fill_inner_elements.Goals as goal

pub returns-in-Some : goal.returns-in-Some
returns-in-Some g c = rw c.in-Some.is at c.fill_narrow_products.ensures

pub returns-in-Some-Some : goal.returns-in-Some-Some
returns-in-Some-Some g c =
    let left : c.args.a.now ≡ number_array c.args.a.now.shape c.as_slice.result.now = search rules in
    let left_is : c.args.a.now.ravel ≡ map Int c.as_slice.result.now = ap (λ v. v.ravel) left in
    let right : c.args.b.now ≡ number_array c.args.b.now.shape c.as_slice-in-Some-Some.result.now = search rules in
    let right_is : c.args.b.now.ravel ≡ map Int c.as_slice-in-Some-Some.result.now = ap (λ v. v.ravel) right in
    rw (left_is, right_is) c.fill_inner_rows.ensures
