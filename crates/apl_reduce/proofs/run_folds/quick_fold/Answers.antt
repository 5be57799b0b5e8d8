use Rattle.std.proofs.Common.{◌≡◌, ◌*◌, ℤ, map, Ok, to_z, of_z, w64, sym, ap, ◌∙◌}
use Rattle.std.proofs.lemmas.Int.{to_z-of_z}
use Rattle.std.proofs.lemmas.Option.{IfSome_then}
use Rattle.apl_array.specs.declared.array.Elem.TheVariants.{Int}
use Rattle.apl_array.specs.declared.function.ScalarFunction.TheVariants.{Plus, Minus}
use Rattle.apl_reduce.specs.Folded.{folded_onto}
use Rattle.apl_reduce.specs.Items.{item_in}
use Rattle.apl_reduce.proofs.run_folds.quick_fold.Goals as goal

pub returns-in-Plus : goal.returns-in-Plus
returns-in-Plus g c =
    let item = item_in (map Int (map g.T.Numeric.number_in c.args.numbers.now)) in
    let first = c.args.first in
    let count = 2 * (2 * (2 * c.args.quarter)) in
    let named = sym c.FUNCTION.ensures ∙ c.in-Plus.is in
    let read : to_z w64 (of_z w64 c.args.total) ≡ c.args.total = to_z-of_z w64 c.args.total c.ranges.total in
    IfSome_then c.near_total.result c.near_total.ensures (λ z all.
    ap (λ f. folded_onto f item first count (Ok c.args.total)) named
    ∙ ap (λ (t : ℤ). folded_onto Plus item first count (Ok t)) (sym read)
    ∙ all Plus (map g.T.Numeric.number_in c.args.numbers.now) first count c.quarters_added.ensures)

pub returns-in-Minus : goal.returns-in-Minus
returns-in-Minus g c =
    let item = item_in (map Int (map g.T.Numeric.number_in c.args.numbers.now)) in
    let first = c.args.first in
    let count = 2 * (2 * (2 * c.args.quarter)) in
    let named = sym c.FUNCTION.ensures ∙ c.in-Minus.is in
    let read : to_z w64 (of_z w64 c.args.total) ≡ c.args.total = to_z-of_z w64 c.args.total c.ranges.total in
    IfSome_then c.near_total-in-Minus.result c.near_total-in-Minus.ensures (λ z all.
    ap (λ f. folded_onto f item first count (Ok c.args.total)) named
    ∙ ap (λ (t : ℤ). folded_onto Minus item first count (Ok t)) (sym read)
    ∙ all Minus (map g.T.Numeric.number_in c.args.numbers.now) first count c.quarters_turned.ensures)
