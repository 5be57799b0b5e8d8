use Rattle.std.proofs.Common.{◌≡◌, suc, ◌+◌, ◌-◌, ◌*◌, map, Ok, to_z, of_z, w64, sym, ap, ◌∙◌, rules, arith}
use Rattle.apl_scalar.specs.Scalar.{dyadic_of}
use Rattle.apl_reduce.specs.Folded.{folded_onto, element_along}
use Rattle.apl_reduce.proofs.Folds.{reached, last_two_first, fault_onto}
use Rattle.apl_reduce.proofs.line_folds.fold_along.Goals as goal

pub returns-in-Err : goal.returns-in-Err
returns-in-Err g c =
    let elements = map g.T.ElementType.elem_of c.args.elements.now in
    let first = c.args.first in
    let stride = c.args.stride in
    let k = c.args.count - 2 in
    let f = g.F.Function.FUNCTION in
    let item = element_along elements first stride in
    let last_two = c.in-Err.ensures
    ∙ ap (λ x. dyadic_of f x c.element_at-last.result) (c.element_at.ensures ∙ reached elements first stride (0 + k) (first + k * stride) (omega arith))
    ∙ ap (dyadic_of f (item (0 + k))) (c.element_at-last.ensures ∙ reached elements first stride (suc (0 + k)) (first + k * stride + stride) (omega arith)) in
    sym (last_two_first f item 0 k ∙ ap (folded_onto f item 0 k) (sym last_two) ∙ fault_onto f item c.in-Err.fault 0 k)

pub returns-in-Ok : goal.returns-in-Ok
returns-in-Ok g c =
    let elements = map g.T.ElementType.elem_of c.args.elements.now in
    let first = c.args.first in
    let stride = c.args.stride in
    let k = c.args.count - 2 in
    let f = g.F.Function.FUNCTION in
    let item = element_along elements first stride in
    let last_two : Ok c.in-Ok.total ≡ dyadic_of f (item (0 + k)) (item (suc (0 + k))) =
    c.in-Ok.ensures
    ∙ ap (λ x. dyadic_of f x c.element_at-last.result) (c.element_at.ensures ∙ reached elements first stride (0 + k) (first + k * stride) (omega arith))
    ∙ ap (dyadic_of f (item (0 + k))) (c.element_at-last.ensures ∙ reached elements first stride (suc (0 + k)) (first + k * stride + stride) (omega arith)) in
    let stored : to_z w64 (of_z w64 c.in-Ok.total) ≡ c.in-Ok.total = search rules in
    c.fold_onto.ensures ∙ ap (λ z. folded_onto f item 0 k (Ok z)) stored ∙ ap (folded_onto f item 0 k) last_two ∙ sym (last_two_first f item 0 k)
