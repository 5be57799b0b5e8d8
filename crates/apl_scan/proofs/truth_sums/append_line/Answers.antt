use Rattle.std.proofs.Common.{◌≡◌, ◌+◌, ◌-◌, ◌*◌, ◌%◌, nat_eq, map, length, take, subst, rules, arith}
use Rattle.apl_array.specs.Array.{bit}
use Rattle.apl_scalar.specs.Scalar.{dyadic_numbers}
use Rattle.apl_summary.specs.Constants.{signed_function}
use Rattle.apl_scan.specs.TruthLines.{IsTruthSum}
use Rattle.apl_scan.proofs.TruthScans.{none_appended}
use Rattle.apl_scan.proofs.truth_sums.append_line.Goals as goal

pub loop-turn-init : goal.loop-turn-init
loop-turn-init g c = record {
  sum = c.none-sum.ensures;
  folds = none_appended (dyadic_numbers (signed_function (nat_eq g.row.MINUS 0))) c.args.truths.now c.args.values.items;
  len = search rules;
  capacity = search rules;
}

pub loop-turn-preserved : goal.loop-turn-preserved
loop-turn-preserved g c =
    let kept = c.loop-turn.invariant in
    let said = c.append_some-sum.ensures in
    let sum = c.append_some-sum.result in
    let next : c.loop-turn.turn * 4 + 4 ≡ (c.loop-turn.turn + 1) * 4 = omega arith in
    record {
      sum = subst (λ n. IsTruthSum (nat_eq g.row.MINUS 0) sum.is_negated sum.total (take n (map bit c.args.truths.now))) next said.sum;
      folds = said.folds c.args.values.items (omega (arith, kept.len)) kept.folds;
      len = search rules;
      capacity = search rules;
    }

pub append_some-all-requires : goal.append_some-all-requires
append_some-all-requires g c =
    let truths = c.args.truths.now in
    let sum = c.loop-turn.sum in
    let rest = length truths % 4 in
    let done : c.loop-turn.turn * 4 ≡ length truths - rest = omega (arith, c.loop-turn-test.false, c.loop-turn.auto.turn-end) in
    (omega arith, (c.requires.most, (omega arith, (search rules, subst (λ n. IsTruthSum (nat_eq g.row.MINUS 0) sum.is_negated sum.total (take n (map bit truths))) done c.loop-turn.invariant.sum))))
