use Rattle.std.proofs.Common.{◌≡◌, pos, length, vec_len, IsOk, sym, subst, rules, arith}
use mathlib.Core.List.{map-id}
use Rattle.apl_scalar.specs.Scalar.{dyadic_numbers}
use Rattle.apl_summary.specs.Columns.{AreColumnFolds}
use Rattle.apl_scan.proofs.ColumnPlaces.{scanned_before, scanned_columns}
use Rattle.apl_scan.proofs.lines.fill_by_columns.Goals as goal

pub returns-then-place-numbers-clause-values : goal.returns-then-place-numbers-clause-values
returns-then-place-numbers-clause-values g c =
    let lines = c.args.lines.now in
    let values = c.in_ok-values.values in
    let told : AreColumnFolds (dyadic_numbers c.args.f) lines.numbers.now c.number.result c.number-2.result (vec_len values) values.items = rw (map-id lines.numbers.now) at c.in_ok-values.ensures.folds in
    let folds : AreColumnFolds (dyadic_numbers c.args.f) lines.numbers.now lines.items lines.inner (vec_len values) values.items = search rules in
    let own : vec_len values ≡ length values.items = search rules in
    let all : vec_len values ≡ length lines.numbers.now = search rules in
    scanned_columns (dyadic_numbers c.args.f) lines.numbers.now values.items lines.items lines.inner (vec_len values) folds (omega (arith, own, all)) all

pub returns-in-Err-clause-stop : goal.returns-in-Err-clause-stop
returns-in-Err-clause-stop g c =
    let lines = c.args.lines.now in
    let values = c.in_ok-values.values in
    let told : AreColumnFolds (dyadic_numbers c.args.f) lines.numbers.now c.number.result c.number-2.result (vec_len values) values.items = rw (map-id lines.numbers.now) at c.in_ok-values.ensures.folds in
    let folds : AreColumnFolds (dyadic_numbers c.args.f) lines.numbers.now lines.items lines.inner (vec_len values) values.items = search rules in
    record {
      below = search rules;
      faulty = search rules;
      earlier = λ k inside. subst (λ r. IsOk r) (sym (scanned_before (dyadic_numbers c.args.f) lines.numbers.now values.items lines.items lines.inner (vec_len values) folds k (pos 0) (omega (arith, inside, c.len-place.ensures)))) (search rules);
    }
