use Rattle.std.proofs.Common.{◌≡◌, ◌+◌, ◌^◌, ◌<◌, ℤ, pos, [], ◌∷◌, ◌++◌, length, slice_index_or, to_z, of_z, w64, sym, ap, subst, ◌∙◌, rules, arith, map}
use Rattle.std.proofs.lemmas.Bool.{ltb-true}
use Rattle.std.proofs.lemmas.List.{length_push}
use Rattle.apl_summary.specs.NearTotals.{AreNearFolds, IsRow}
use Rattle.apl_summary.proofs.NearTotals.{IsNear, near_from_above, both_low, empty_column, first_fold, one_more_near}
use Rattle.apl_summary.proofs.near_columns.append_first_row.Goals as goal

pub loop-column-preserved : goal.loop-column-preserved
loop-column-preserved g c =
    let numbers = map g.T.Numeric.number_in c.args.numbers.now in
    let start = c.len-start.result in
    let column = c.loop-column.column in
    let place = start + column in
    let kept = c.loop-column.invariant in
    let values = c.loop-column.values.items in
    let x : ℤ = slice_index_or numbers place (pos 0) in
    let value : ℤ = to_z w64 (of_z w64 c.number_at-number.result) in
    let read_number : value ≡ c.number_at-number.result = search rules in
    let read : value ≡ x = read_number ∙ c.number_at-number.ensures in
    let pushed : c.push_reserved.new.self.items ≡ values ++ value ∷ [] = c.push_reserved.ensures.items in
    let next : place + 1 ≡ start + (column + 1) = omega arith in
    record {
      count = ap length pushed ∙ length_push values value ∙ omega (arith, kept.count);
      capacity = c.push_reserved.ensures.capacity ∙ kept.capacity;
      folds = λ low is_plus before row had.
          let both = both_low c.loop-column.most c.above_least-most.result low in
          let near : IsNear x = subst IsNear read (near_from_above c.above_least-most.result value both.1 (c.above_least-most.ensures both.1)) in
          let none = empty_column before numbers start c.args.inner column c.loop-column-test.true row in
          subst (λ n. AreNearFolds is_plus before numbers n c.push_reserved.new.self.items) next
          (subst (AreNearFolds is_plus before numbers (place + 1)) (sym pushed)
          (subst (λ z. AreNearFolds is_plus before numbers (place + 1) (values ++ z ∷ [])) (sym read)
          (one_more_near is_plus before numbers values place x kept.count (first_fold is_plus before numbers place none near) (kept.folds both.0 is_plus before row had))));
    }

pub returns-clause-folds : goal.returns-clause-folds
returns-clause-folds g c = λ near is_plus before row had.
    let numbers = map g.T.Numeric.number_in c.args.numbers.now in
    let kept = c.loop-column.invariant in
    let low : c.loop-column.most < 2 ^ 33 = ltb-true c.loop-column.most (2 ^ 33) near in
    let start = c.len-start.ensures in
    subst (λ n. AreNearFolds is_plus before numbers n c.loop-column.values.items) (sym (c.loop-column.values.ok.0 ∙ kept.count))
    (kept.folds low is_plus before (subst (λ n. IsRow before numbers n c.args.inner 0) (sym start) row)
    (subst (λ n. AreNearFolds is_plus before numbers n c.args.values.now.items) (sym start) had))
