use Rattle.std.proofs.Common.{◌≡◌, to_z, of_z, w64, rules}
use Rattle.apl_summary.proofs.SmallProducts.{behind_is}
use Rattle.apl_summary.proofs.small_coefficients.SmallCoefficients.behind.Goals as goal

pub returns : goal.returns
returns c =
    let kept : to_z w64 (of_z w64 c.product-total.result) ≡ c.product-total.result = search rules in
    let item : to_z w64 (of_z w64 c.args.item) ≡ c.args.item = search rules in
    let before : to_z w64 (of_z w64 c.args.self.now.total) ≡ c.args.self.now.total = search rules in
    let low : to_z w64 (of_z w64 c.args.self.now.least) ≡ c.args.self.now.least = search rules in
    let high : to_z w64 (of_z w64 c.args.self.now.greatest) ≡ c.args.self.now.greatest = search rules in
    let least : to_z w64 (of_z w64 c.lesser_of.result) ≡ c.lesser_of.result = search rules in
    let greatest : to_z w64 (of_z w64 c.greater_of.result) ≡ c.greater_of.result = search rules in
    rw (least, greatest, c.lesser_of.ensures, c.greater_of.ensures, low, high, kept, c.product-total.ensures, before, item) (behind_is c.args.item c.args.self.now c.requires.factors.1 c.requires.factors.0)
