use Rattle.std.proofs.Common.{◌≡◌, ◌+◌, ◌-◌, ◌*◌, ◌%◌, length, vec_len, ap, subst, ◌∙◌, arith, map}
use Rattle.apl_summary.specs.Columns.{AreFrontsInRow}
use Rattle.apl_summary.proofs.running_columns.append_row.Goals as goal

pub returns-then-not-append_some-clause-folds : goal.returns-then-not-append_some-clause-folds
returns-then-not-append_some-clause-folds g c = λ before are folds.
    let kept = c.loop-turn.invariant in
    c.append_some.ensures.folds before (vec_len c.args.values.now) kept.count (kept.fronts before are) (kept.folds before are folds)

pub loop-turn-preserved : goal.loop-turn-preserved
loop-turn-preserved g c =
    let kept = c.loop-turn.invariant in
    let said = c.append_some.ensures in
    let start = vec_len c.args.values.now in
    let all = said.all c.if-not-append_some.false in
    let next : c.loop-turn.turn * 4 + 4 ≡ (c.loop-turn.turn + 1) * 4 = omega arith in
    record {
      len = said.len ∙ kept.len;
      count = omega (arith, all, kept.count, next);
      capacity = said.capacity ∙ kept.capacity;
      folds = λ before are folds. said.folds before start kept.count (kept.fronts before are) (kept.folds before are folds);
      fronts = λ before are.
          subst (λ n. AreFrontsInRow g.F.PrefixState.is_of before (map g.T.Numeric.number_in c.args.numbers.now) start n c.append_some.new.fronts) next
          (said.fronts c.if-not-append_some.false before start kept.count (kept.fronts before are));
    }

pub returns-clause-folds : goal.returns-clause-folds
returns-clause-folds g c = λ before are folds.
    let kept = c.loop-turn.invariant in
    let start = vec_len c.args.values.now in
    let count = length c.loop-turn.fronts in
    let done : c.loop-turn.turn * 4 ≡ count - count % 4 = omega (arith, c.loop-turn-test.false, c.loop-turn.auto.turn-end, kept.len) in
    c.append_some-2.ensures.folds before start (kept.count ∙ ap (λ n. start + n) done)
    (subst (λ n. AreFrontsInRow g.F.PrefixState.is_of before (map g.T.Numeric.number_in c.args.numbers.now) start n c.loop-turn.fronts) done (kept.fronts before are)) (kept.folds before are folds)

pub returns-clause-fronts : goal.returns-clause-fronts
returns-clause-fronts g c = λ all before are.
    let kept = c.loop-turn.invariant in
    let start = vec_len c.args.values.now in
    let count = length c.loop-turn.fronts in
    let done : c.loop-turn.turn * 4 ≡ count - count % 4 = omega (arith, c.loop-turn-test.false, c.loop-turn.auto.turn-end, kept.len) in
    let whole : count - count % 4 + count % 4 ≡ length c.args.fronts.now = omega (arith, kept.len) in
    subst (λ n. AreFrontsInRow g.F.PrefixState.is_of before (map g.T.Numeric.number_in c.args.numbers.now) start n c.append_some-2.new.fronts) whole
    (c.append_some-2.ensures.fronts all before start (kept.count ∙ ap (λ n. start + n) done)
    (subst (λ n. AreFrontsInRow g.F.PrefixState.is_of before (map g.T.Numeric.number_in c.args.numbers.now) start n c.loop-turn.fronts) done (kept.fronts before are)))
