use Rattle.std.proofs.Common.{◌≡◌, ◌^◌, ◌<◌, ℤ, Ok, FitsSigned, to_z, of_z, w64, sym, ap, ◌∙◌, rules}
use Rattle.std.specs.Prelude.{unsigned_abs, ◌+ℤ◌}
use Rattle.std.proofs.lemmas.Int.{to_z-of_z}
use Rattle.std.proofs.lemmas.Option.{IfSome_then}
use Rattle.apl_reduce.proofs.run_folds.near_total.Goals as goal

pub returns : goal.returns
returns c =
    let total = c.args.total in
    let added = c.args.change.sum in
    let fits : FitsSigned w64 added = search rules in
    let low : c.args.change.bits < 2 ^ 47 = search rules in
    let size : c.unsigned_abs.result ≡ unsigned_abs total = c.unsigned_abs.ensures.value ∙ ap unsigned_abs (to_z-of_z w64 total c.ranges.total) in
    let small : unsigned_abs total < 2 ^ 62 = search rules in
    IfSome_then c.checked_sum.result c.checked_sum.ensures (λ z is f numbers first count adds.
    let all : z ≡ total +ℤ added = is ∙ ap (λ i. i +ℤ to_z w64 (of_z w64 added)) (to_z-of_z w64 total c.ranges.total) ∙ ap (λ i. total +ℤ i) (to_z-of_z w64 added fits) in
    adds low total small ∙ ap (λ (i : ℤ). Ok i) (sym all))
