use Rattle.std.proofs.Common.{◌≡◌, ◌+◌, ◌-◌, ◌*◌, map, ℤ, Result, Ok, to_z, of_z, w64, sym, ap, ◌∙◌, rules, arith}
use Rattle.apl_pool.specs.declared.kernel.Fault.{Fault}
use Rattle.apl_reduce.specs.Folded.{folded_onto}
use Rattle.apl_reduce.specs.Items.{item_in}
use Rattle.apl_reduce.proofs.Folds.{fault_stays, run_onto, by_places}
use Rattle.apl_reduce.proofs.run_folds.fold_neighbours.Goals as goal

pub returns-in-Err : goal.returns-in-Err
returns-in-Err g c =
    let f = g.F.Function.FUNCTION in
    let item = item_in (map g.T.ElementType.elem_of c.args.numbers.now) in
    let rest = c.loop-rest.rest in
    let start : Result ℤ Fault = Ok (to_z w64 (of_z w64 c.args.total)) in
    let read : to_z w64 (of_z w64 c.args.total) ≡ c.args.total = search rules in
    let next = rest - 8 * c.min-quarter.result in
    let kept = c.loop-rest.invariant in
    let faulty = c.in-Err.ensures
    ∙ run_onto f item c.args.first next (2 * (2 * (2 * c.min-quarter.result))) rest c.args.count _ start (omega arith) kept.order kept.total in
    sym (fault_stays f item c.in-Err.fault c.args.first next (c.args.count - next) c.args.count start (omega (arith, kept.order)) (sym faulty))
    ∙ ap (λ z. folded_onto f item c.args.first c.args.count (Ok z)) read

pub loop-rest-preserved : goal.loop-rest-preserved
loop-rest-preserved g c =
    let f = g.F.Function.FUNCTION in
    let item = item_in (map g.T.ElementType.elem_of c.args.numbers.now) in
    let rest = c.loop-rest.rest in
    let next = rest - 8 * c.min-quarter.result in
    let kept = c.loop-rest.invariant in
    let stored : to_z w64 (of_z w64 c.in-Ok.number) ≡ c.in-Ok.number = search rules in
    record {
      order = omega (arith, kept.order);
      total = ap (λ (z : ℤ). Ok z) stored ∙ c.in-Ok.ensures
          ∙ run_onto f item c.args.first next (2 * (2 * (2 * c.min-quarter.result))) rest c.args.count _ (Ok (to_z w64 (of_z w64 c.args.total))) (omega arith) kept.order kept.total;
    }

pub returns : goal.returns
returns g c =
    let f = g.F.Function.FUNCTION in
    let item = item_in (map g.T.ElementType.elem_of c.args.numbers.now) in
    let rest = c.loop-rest.rest in
    let start : Result ℤ Fault = Ok (to_z w64 (of_z w64 c.args.total)) in
    let read : to_z w64 (of_z w64 c.args.total) ≡ c.args.total = search rules in
    let so_far : Result ℤ Fault = Ok (to_z w64 c.loop-rest.total-bits) in
    let kept = c.loop-rest.invariant in
    let front : c.args.first ≡ c.args.first + 0 = omega arith in
    let all : c.args.count - 0 ≡ c.args.count = omega arith in
    c.fold_items.ensures ∙ by_places f (map g.T.ElementType.elem_of c.args.numbers.now) c.args.first rest so_far
    ∙ ap (λ i. folded_onto f item i rest so_far) front
    ∙ run_onto f item c.args.first 0 rest rest c.args.count so_far start (omega arith) kept.order kept.total
    ∙ ap (λ i. folded_onto f item i (c.args.count - 0) start) (sym front)
    ∙ ap (λ n. folded_onto f item c.args.first n start) all
    ∙ ap (λ z. folded_onto f item c.args.first c.args.count (Ok z)) read
