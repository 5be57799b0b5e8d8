use Rattle.std.proofs.Common.{◌≡◌, ◌+◌, ◌*◌, map, take, subst, rules, arith}
use Rattle.apl_summary.proofs.FrontNumbers.{none_appended}
use Rattle.apl_summary.proofs.running.append_scan_after.Goals as goal

pub loop-turn-init : goal.loop-turn-init
loop-turn-init g c = record {
  front = c.requires.none;
  folds = none_appended g.F.PrefixState.step (map g.T.Numeric.number_in c.args.numbers.now) c.args.values.items;
  len = search rules;
  capacity = search rules;
}

pub loop-turn-preserved : goal.loop-turn-preserved
loop-turn-preserved g c =
    let kept = c.loop-turn.invariant in
    let said = c.in-Some.ensures in
    let next : c.loop-turn.turn * 4 + 4 ≡ (c.loop-turn.turn + 1) * 4 = omega arith in
    record {
      front = subst (λ n. g.F.PrefixState.is_of c.in-Some.next (take n (map g.T.Numeric.number_in c.args.numbers.now))) next said.front;
      folds = said.folds c.args.values.items (search rules) kept.folds;
      len = search rules;
      capacity = search rules;
    }
