use Rattle.std.proofs.Common.{◌≡◌, map, ap, rules}
use Rattle.apl_array.specs.declared.array.Elem.TheVariants.{Int}
use Rattle.apl_array.specs.Array.{number_array}
use Rattle.apl_reduce.proofs.narrow_products.fill_narrow_rows.Goals as goal

pub returns-in-Ok-Some : goal.returns-in-Ok-Some
returns-in-Ok-Some g c =
    let left : c.args.a.now ≡ number_array c.args.a.now.shape c.as_slice.result.now = search rules in
    let left_is : c.args.a.now.ravel ≡ map Int c.as_slice.result.now = ap (λ v. v.ravel) left in
    rw left_is c.fill_product_rows.ensures
