use Rattle.std.proofs.Common.{◌≡◌, ◌*◌, map, ℤ, Result, Ok, to_z, of_z, w64, ap, ◌∙◌, arith}
use Rattle.std.proofs.lemmas.Int.{to_z-of_z}
use Rattle.apl_pool.specs.declared.kernel.Fault.{Fault}
use Rattle.apl_reduce.specs.Folded.{folded_onto}
use Rattle.apl_reduce.specs.Items.{item_in}
use Rattle.apl_reduce.proofs.Folds.{by_places}
use Rattle.apl_reduce.proofs.run_folds.fold_run.Goals as goal

pub returns-in-None : goal.returns-in-None
returns-in-None g c =
    let f = g.F.Function.FUNCTION in
    let items = map g.T.ElementType.elem_of c.args.numbers.now in
    let first = c.args.first in
    let quarter = c.args.quarter in
    let start : Result ℤ Fault = Ok (to_z w64 (of_z w64 c.args.total)) in
    let all : 8 * quarter ≡ 2 * (2 * (2 * quarter)) = omega arith in
    c.fold_items.ensures ∙ by_places f items first (8 * quarter) start
    ∙ ap (λ n. folded_onto f (item_in items) first n start) all
    ∙ ap (λ z. folded_onto f (item_in items) first (2 * (2 * (2 * quarter))) (Ok z)) (to_z-of_z w64 c.args.total c.ranges.total)
