use Rattle.std.proofs.Common.{◌≡◌, ℤ, ◌*ℤ◌, Ok, to_z, of_z, w64, refl, sym, ap, ◌∙◌, rules}
use Rattle.std.specs.Prelude.{unsigned_abs}
use Rattle.apl_summary.specs.Fronts.{product_of_all}
use Rattle.apl_summary.proofs.Fronts.{product_value, product_after}
use Rattle.apl_summary.proofs.bounded_product.BoundedProductPrefixState.with.Goals as goal
use Rattle.apl_summary.proofs.bounded_product.BoundedProductPrefixState.with.Goals.{After-product_of_all-total}

product_is : (c : After-product_of_all-total) → c.in_ok-after_zero.after_zero ≡ c.args.self.now.after_zero *ℤ c.args.number
product_is c =
    let fits = c.ranges.number in
    let kept : to_z w64 (of_z w64 c.args.number) ≡ c.args.number = search rules in
    let kept_before : to_z w64 (of_z w64 c.args.self.now.after_zero) ≡ c.args.self.now.after_zero = search rules in
    c.in_ok-after_zero.ensures ∙ rw (kept, kept_before) refl

pub returns-clause-value : goal.returns-clause-value
returns-clause-value c = λ xs is.
    let s = c.args.self.now in
    let p = c.in_ok-after_zero.after_zero in
    let at = (goal.at.returns-clause-value c).After-product_of_all-total in
    let kept : to_z w64 (of_z w64 p) ≡ p = search rules in
    let stored : to_z w64 (of_z w64 c.product_of_all-total.result) ≡ c.product_of_all-total.result = search rules in
    let total = stored ∙ c.product_of_all-total.ensures ∙ ap (product_of_all s.has_zero) kept in
    product_value s.has_zero s.after_zero c.args.number p xs (product_is at) (rw kept at c.in_ok-next.ensures.range) is ∙ ap (λ (z : ℤ). Ok z) (sym total)

pub returns-clause-front : goal.returns-clause-front
returns-clause-front c = λ xs is.
    let s = c.args.self.now in
    let next = c.in_ok-next.next in
    let p = c.in_ok-after_zero.after_zero in
    let at = (goal.at.returns-clause-front c).After-product_of_all-total in
    let kept : to_z w64 (of_z w64 p) ≡ p = search rules in
    product_after s.has_zero s.after_zero c.args.number p (product_of_all next.has_zero next.after_zero) (unsigned_abs next.after_zero) xs (product_is at) s.some
    (rw kept at c.in_ok-next.ensures.all) (rw kept at c.in_ok-next.ensures.most) is
