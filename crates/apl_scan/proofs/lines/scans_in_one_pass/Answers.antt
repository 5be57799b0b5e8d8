use Rattle.std.proofs.Common.{◌≡◌, length, map, vec_len, rules, arith}
use Rattle.std.proofs.lemmas.List.{length-map}
use Rattle.apl_scalar.specs.Scalar.{dyadic_numbers}
use Rattle.apl_summary.specs.Columns.{AreColumnFolds}
use Rattle.apl_scan.proofs.ColumnPlaces.{scanned_columns}
use Rattle.apl_scan.proofs.lines.scans_in_one_pass.Goals as goal

pub returns : goal.returns
returns g c =
    let numbers = map g.T.Numeric.number_in c.args.numbers.now in
    let step = dyadic_numbers c.args.f in
    let values = c.in_ok-values.values in
    let folds : AreColumnFolds step numbers c.args.items c.args.inner (vec_len values) values.items = search rules in
    let own : vec_len values ≡ length values.items = search rules in
    let same : length numbers ≡ length c.args.numbers.now = length-map c.args.numbers.now g.T.Numeric.number_in in
    let all : vec_len values ≡ length numbers = omega (arith, same, c.in_ok-values.ensures.most, c.if-len-numbers.false, c.len.ensures) in
    rw same at (scanned_columns step numbers values.items c.args.items c.args.inner (vec_len values) folds (omega (arith, own, all)) all)
