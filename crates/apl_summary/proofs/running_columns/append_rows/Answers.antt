use Rattle.std.proofs.Common.{◌≡◌, ◌+◌, ◌*◌, length, vec_len, sym, subst, ◌∙◌, arith, map}
use Rattle.apl_summary.specs.Columns.{AreFrontsAt, AreFrontsInRow, column_before}
use Rattle.apl_summary.proofs.ColumnFolds.{begun, gone_on}
use Rattle.apl_summary.proofs.running_columns.append_rows.Given.{Over}
use Rattle.apl_summary.proofs.running_columns.append_rows.Goals as goal
use Rattle.apl_summary.proofs.running_columns.append_rows.Goals.{After-begin_row}

fronts_there : (g : Over) (c : After-begin_row g)
    → AreFrontsAt g.F.PrefixState.is_of (column_before (map g.T.Numeric.number_in c.args.numbers.now) c.args.items (length c.args.fronts.now)) (vec_len c.loop-row.values) c.begin_row.new.fronts
fronts_there g c =
    let is_of = g.F.PrefixState.is_of in
    let numbers = (map g.T.Numeric.number_in c.args.numbers.now) in
    let inner = length c.args.fronts.now in
    let kept = c.loop-row.invariant in
    let said = c.begin_row.ensures in
    subst (λ p. AreFrontsAt is_of (column_before numbers c.args.items inner) p c.begin_row.new.fronts) (sym kept.count)
    (begun is_of numbers c.args.items inner c.loop-row.row c.loop-row.fronts c.begin_row.new.fronts c.args.front c.requires.none kept.len said.len said.first said.later kept.fronts)

pub returns-then-not-append_row-clause-folds : goal.returns-then-not-append_row-clause-folds
returns-then-not-append_row-clause-folds g c =
    let at = goal.at.returns-then-not-append_row-clause-folds g c in
    c.append_row.ensures.folds (column_before (map g.T.Numeric.number_in c.args.numbers.now) c.args.items (length c.args.fronts.now)) (fronts_there g at.After-begin_row) c.loop-row.invariant.folds

pub loop-row-preserved : goal.loop-row-preserved
loop-row-preserved g c =
    let is_of = g.F.PrefixState.is_of in
    let numbers = (map g.T.Numeric.number_in c.args.numbers.now) in
    let inner = length c.args.fronts.now in
    let before = column_before numbers c.args.items inner in
    let kept = c.loop-row.invariant in
    let said = c.append_row.ensures in
    let there = fronts_there g (goal.at.loop-row-preserved g c).After-begin_row in
    let wide : length c.begin_row.new.fronts ≡ inner = c.begin_row.ensures.len ∙ kept.len in
    let all = said.all c.if-not-append_row.false in
    record {
      len = said.len ∙ wide;
      count = omega (arith, all, wide, kept.count);
      capacity = said.capacity ∙ kept.capacity;
      folds = said.folds before there kept.folds;
      fronts = λ later.
          gone_on is_of numbers c.args.items inner c.loop-row.row c.append_row.new.fronts (said.len ∙ wide) c.requires.items later
          (subst (λ p. AreFrontsInRow is_of before numbers p inner c.append_row.new.fronts) kept.count
          (subst (λ n. AreFrontsInRow is_of before numbers (vec_len c.loop-row.values) n c.append_row.new.fronts) wide (said.fronts c.if-not-append_row.false before there)));
    }
