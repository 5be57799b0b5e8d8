use Rattle.std.proofs.Common.{◌≡◌, ℕ, List, ◌+◌, ◌-◌, ◌*◌, map, pos, ℤ, Result, Ok, slice_index_or, to_z, of_z, w64, sym, ap, ◌∙◌, rules, arith}
use Rattle.apl_array.specs.declared.array.Elem.{Elem}
use Rattle.apl_array.specs.declared.array.Elem.TheVariants.{Int}
use Rattle.apl_pool.specs.declared.kernel.Fault.{Fault}
use Rattle.apl_reduce.specs.Folded.{folded_onto, element_along}
use Rattle.apl_reduce.proofs.Folds.{fault_stays, run_onto, same_items}
use Rattle.apl_reduce.proofs.folding.fold_many.Goals as goal

-- item i from item `rest` on
further : (elements : List Elem) (first stride rest i : ℕ) → element_along elements (first + rest * stride) stride (0 + i) ≡ element_along elements first stride (0 + rest + i)
further elements first stride rest i =
    let place : first + rest * stride + (0 + i) * stride ≡ first + (0 + rest + i) * stride = omega arith in
    ap (λ k. slice_index_or elements k (Int (pos 0))) place

pub returns-in-Err : goal.returns-in-Err
returns-in-Err g c =
    let f = g.F.Function.FUNCTION in
    let elements = map g.T.ElementType.elem_of c.args.elements.now in
    let item = element_along elements c.args.first c.args.stride in
    let rest = c.loop-rest.rest in
    let next = rest - 4 in
    let start : Result ℤ Fault = Ok (to_z w64 (of_z w64 c.args.total)) in
    let read : to_z w64 (of_z w64 c.args.total) ≡ c.args.total = search rules in
    let kept = c.loop-rest.invariant in
    let faulty = c.in-Err.ensures
    ∙ same_items f (element_along elements (c.args.first + next * c.args.stride) c.args.stride) item 0 (0 + next) 4 (Ok (to_z w64 c.loop-rest.total-bits)) (further elements c.args.first c.args.stride next)
    ∙ run_onto f item 0 next 4 rest c.args.count (Ok (to_z w64 c.loop-rest.total-bits)) start (omega (arith, c.loop-rest-test.true)) kept.order kept.total in
    sym (fault_stays f item c.in-Err.refused 0 next (c.args.count - next) c.args.count start (omega (arith, kept.order)) (sym faulty))
    ∙ ap (λ z. folded_onto f item 0 c.args.count (Ok z)) read

pub loop-rest-preserved : goal.loop-rest-preserved
loop-rest-preserved g c =
    let f = g.F.Function.FUNCTION in
    let elements = map g.T.ElementType.elem_of c.args.elements.now in
    let item = element_along elements c.args.first c.args.stride in
    let rest = c.loop-rest.rest in
    let next = rest - 4 in
    let kept = c.loop-rest.invariant in
    let stored : to_z w64 (of_z w64 c.in-Ok.number) ≡ c.in-Ok.number = search rules in
    record {
      order = omega (arith, kept.order);
      total = ap (λ (z : ℤ). Ok z) stored ∙ c.in-Ok.ensures
          ∙ same_items f (element_along elements (c.args.first + next * c.args.stride) c.args.stride) item 0 (0 + next) 4 (Ok (to_z w64 c.loop-rest.total-bits)) (further elements c.args.first c.args.stride next)
          ∙ run_onto f item 0 next 4 rest c.args.count (Ok (to_z w64 c.loop-rest.total-bits)) (Ok (to_z w64 (of_z w64 c.args.total))) (omega (arith, c.loop-rest-test.true)) kept.order kept.total;
    }

pub fold_items-requires-clause-within : goal.fold_items-requires-clause-within
fold_items-requires-clause-within g c =
    let rest = c.loop-rest.rest in
    let above = c.args.count - rest in
    let items : c.args.count * c.args.stride ≡ (rest - 4 + 4 + above) * c.args.stride = ap (λ n. n * c.args.stride) (omega (arith, c.loop-rest.invariant.order, c.loop-rest-test.true)) in
    omega (arith, items, c.requires.within)

pub returns : goal.returns
returns g c =
    let f = g.F.Function.FUNCTION in
    let elements = map g.T.ElementType.elem_of c.args.elements.now in
    let item = element_along elements c.args.first c.args.stride in
    let rest = c.loop-rest.rest in
    let start : Result ℤ Fault = Ok (to_z w64 (of_z w64 c.args.total)) in
    let read : to_z w64 (of_z w64 c.args.total) ≡ c.args.total = search rules in
    let so_far : Result ℤ Fault = Ok (to_z w64 c.loop-rest.total-bits) in
    let kept = c.loop-rest.invariant in
    let all : c.args.count - 0 ≡ c.args.count = omega arith in
    c.fold_items-2.ensures
    ∙ run_onto f item 0 0 rest rest c.args.count so_far start (omega arith) kept.order kept.total
    ∙ ap (λ n. folded_onto f item 0 n start) all
    ∙ ap (λ z. folded_onto f item 0 c.args.count (Ok z)) read
