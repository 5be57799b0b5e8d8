use Rattle.std.proofs.Common.{◌≡◌, map, ℤ, Result, Ok, to_z, of_z, w64, sym, ap, ◌∙◌, rules}
use Rattle.std.proofs.lemmas.Int.{to_z-of_z}
use Rattle.apl_pool.specs.declared.kernel.Fault.{Fault}
use Rattle.apl_reduce.specs.Folded.{folded_onto, element_along}
use Rattle.apl_reduce.proofs.Folds.{by_places}
use Rattle.apl_reduce.proofs.foldable.fold_numbers.Goals as goal

pub returns-then-has_quick_runs : goal.returns-then-has_quick_runs
returns-then-has_quick_runs g c =
    let f = g.F.Function.FUNCTION in
    let elements = map g.T.ElementType.elem_of c.args.elements.now in
    let near : c.args.stride ≡ 1 = search rules in
    let total : Result ℤ Fault = Ok (to_z w64 (of_z w64 c.args.total)) in
    c.fold_neighbours.ensures
    ∙ sym (by_places f elements c.args.first c.args.count total)
    ∙ ap (λ n. folded_onto f (element_along elements c.args.first n) 0 c.args.count total) (sym near)
    ∙ ap (λ z. folded_onto f (element_along elements c.args.first c.args.stride) 0 c.args.count (Ok z)) (to_z-of_z w64 c.args.total c.ranges.total)
