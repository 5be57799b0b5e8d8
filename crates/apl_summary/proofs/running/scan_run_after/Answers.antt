use Rattle.std.proofs.Common.{◌≡◌, ◌+◌, ◌*◌, ◌++◌, take, sym, subst, rules, arith}
use Rattle.std.proofs.lemmas.List.{append-nil}
use Rattle.apl_summary.specs.Running.{AreFoldsBehind}
use Rattle.apl_summary.proofs.running.scan_run_after.Goals as goal

pub loop-turn-init : goal.loop-turn-init
loop-turn-init g c = record {
  front = λ before is. subst (g.F.PrefixState.is_of c.args.front) (sym (append-nil before)) is;
  folds = λ before is k d none. absurd (omega (arith, none));
  len = search rules;
}

pub loop-turn-preserved : goal.loop-turn-preserved
loop-turn-preserved g c =
    let step = g.F.PrefixState.step in
    let is_of = g.F.PrefixState.is_of in
    let numbers = c.args.numbers.now in
    let kept = c.loop-turn.invariant in
    let said = c.in-Ok.ensures in
    let next : c.loop-turn.turn * 4 + 4 ≡ (c.loop-turn.turn + 1) * 4 = omega arith in
    record {
      front = λ before is. subst (λ n. is_of c.in-Ok.next (before ++ take n numbers)) next (said.front before (kept.front before is));
      folds = λ before is. subst (λ n. AreFoldsBehind step before numbers n c.scan_some.new.room) next (said.folds before (kept.front before is) (kept.folds before is));
      len = search rules;
    }
