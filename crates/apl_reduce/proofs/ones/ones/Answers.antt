use Rattle.std.proofs.Common.{◌≡◌, ◌+◌, ◌*◌, ◌/◌, ◌%◌, sym, ap, ◌∙◌, arith}
use Rattle.apl_reduce.specs.Ones.{ones}
use Rattle.apl_reduce.proofs.TrueCounts.{ones_none, ones_most, ones_of_runs, before_run}
use Rattle.apl_reduce.proofs.ones.ones.Goals as goal
use Rattle.apl_reduce.proofs.ones.ones.Goals.{After-few_ones-2}

all_runs : (c : After-few_ones-2) → c.loop-run.total + c.few_ones-2.result ≡ ones c.args.truths.now c.args.first c.args.count
all_runs c =
    let truths = c.args.truths.now in
    let first = c.args.first in
    let count = c.args.count in
    let run : c.loop-run.run ≡ count / 192 = omega (arith, c.loop-run-test.false) in
    let before : c.loop-run.total ≡ ones truths first (count / 192 * 192) = c.loop-run.invariant ∙ ap (λ n. ones truths first (n * 192)) run in
    let last : c.few_ones-2.result ≡ ones truths (first + count / 192 * 192) (count % 192) =
    omega (arith, c.few_ones-2.ensures, before_run truths (first + count / 192 * 192) (count % 192)) in
    let all : count / 192 * 192 + count % 192 ≡ count = omega arith in
    omega (arith, before, last, ones_of_runs truths first (count / 192 * 192) (count % 192)) ∙ ap (ones truths first) all

pub loop-run-init : goal.loop-run-init
loop-run-init c = sym (ones_none c.args.truths.now c.args.first)

pub overflow_add-total : goal.overflow_add-total
overflow_add-total c =
    let truths = c.args.truths.now in
    let first = c.args.first in
    let run = c.loop-run.run in
    omega (arith, c.loop-run.invariant, ones_most truths first (run * 192), ones_most truths (first + run * 192) 192, c.few_ones.ensures, before_run truths (first + run * 192) 192, c.loop-run-test.true)

pub loop-run-preserved : goal.loop-run-preserved
loop-run-preserved c =
    let truths = c.args.truths.now in
    let first = c.args.first in
    let run = c.loop-run.run in
    let next : (run + 1) * 192 ≡ run * 192 + 192 = omega arith in
    let here : c.few_ones.result ≡ ones truths (first + run * 192) 192 = omega (arith, c.few_ones.ensures, before_run truths (first + run * 192) 192) in
    omega (arith, c.loop-run.invariant, here, ones_of_runs truths first (run * 192) 192) ∙ ap (ones truths first) (sym next)

pub overflow_add-result : goal.overflow_add-result
overflow_add-result c = omega (arith, all_runs c, ones_most c.args.truths.now c.args.first c.args.count)

pub returns-clause-value : goal.returns-clause-value
returns-clause-value c = all_runs c

pub returns-clause-most : goal.returns-clause-most
returns-clause-most c = omega (arith, all_runs c, ones_most c.args.truths.now c.args.first c.args.count)
