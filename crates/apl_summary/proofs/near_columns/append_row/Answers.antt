use Rattle.std.proofs.Common.{◌≡◌, ◌+◌, ◌-◌, ◌^◌, ◌<◌, ℤ, pos, [], ◌∷◌, ◌++◌, length, slice_index_or, to_z, of_z, w64, sym, ap, subst, ◌∙◌, rules, arith, map}
use Rattle.std.proofs.lemmas.Bool.{ltb-true}
use Rattle.std.proofs.lemmas.List.{length_push}
use Rattle.apl_pool.specs.Summaries.{IsI64}
use Rattle.apl_summary.specs.Fronts.{signed_total}
use Rattle.apl_summary.specs.NearTotals.{IsNearFold, AreNearFolds, IsRow}
use Rattle.apl_summary.proofs.NearTotals.{IsNear, near_from_above, both_low, next_fold, one_more_near}
use Rattle.apl_summary.proofs.near_columns.append_row.Goals as goal

pub loop-column-preserved : goal.loop-column-preserved
loop-column-preserved g c =
    let numbers = map g.T.Numeric.number_in c.args.numbers.now in
    let inner = c.args.inner in
    let start = c.len-start.result in
    let column = c.loop-column.column in
    let place = start + column in
    let kept = c.loop-column.invariant in
    let values = c.loop-column.values.items in
    let total = c.index-total.result.now in
    let x : ℤ = slice_index_or numbers place (pos 0) in
    let read_number : to_z w64 (of_z w64 c.number_at-number.result) ≡ c.number_at-number.result = search rules in
    let read : to_z w64 (of_z w64 c.number_at-number.result) ≡ x = read_number ∙ c.number_at-number.ensures in
    let value : ℤ = to_z w64 (of_z w64 c.total_with.result) in
    let stored : value ≡ c.total_with.result = search rules in
    let held : total ≡ slice_index_or values (place - inner) total = c.index-total.ensures in
    let read_total : to_z w64 (of_z w64 total) ≡ total = search rules in
    let pushed : c.push_reserved.new.self.items ≡ values ++ value ∷ [] = c.push_reserved.ensures.items in
    let next : place + 1 ≡ start + (column + 1) = omega arith in
    record {
      count = ap length pushed ∙ length_push values value ∙ omega (arith, kept.count);
      capacity = c.push_reserved.ensures.capacity ∙ kept.capacity;
      folds = λ low is_plus before count some few sign row had.
          let both = both_low c.loop-column.most c.above_least-most.result low in
          let near : IsNear x = subst IsNear read (near_from_above c.above_least-most.result (to_z w64 (of_z w64 c.number_at-number.result)) both.1 (c.above_least-most.ensures both.1)) in
          let were = kept.folds both.0 is_plus before count some few sign row had in
          let was : IsNearFold is_plus before numbers (place - inner) total = subst (IsNearFold is_plus before numbers (place - inner)) (sym held) (were (place - inner) total (omega (arith, c.loop-column-test.true, c.requires.past, c.len-start.ensures))) in
          let more = next_fold is_plus before numbers start inner count column total c.loop-column-test.true some few row near was in
          let fits : IsI64 (signed_total c.args.subtracts (to_z w64 (of_z w64 total)) (to_z w64 (of_z w64 c.number_at-number.result))) = rw (read, read_total, sign) more.fits in
          let is : value ≡ signed_total c.args.subtracts total x = stored ∙ c.total_with.ensures fits ∙ ap (λ t. signed_total c.args.subtracts t (to_z w64 (of_z w64 c.number_at-number.result))) read_total ∙ ap (signed_total c.args.subtracts total) read in
          let fold : IsNearFold is_plus before numbers place value = rw (is, sign) more.is in
          subst (λ n. AreNearFolds is_plus before numbers n c.push_reserved.new.self.items) next
          (subst (AreNearFolds is_plus before numbers (place + 1)) (sym pushed)
          (one_more_near is_plus before numbers values place value kept.count fold were));
    }

pub returns-clause-folds : goal.returns-clause-folds
returns-clause-folds g c = λ near is_plus before count some few sign row had.
    let numbers = map g.T.Numeric.number_in c.args.numbers.now in
    let kept = c.loop-column.invariant in
    let low : c.loop-column.most < 2 ^ 33 = ltb-true c.loop-column.most (2 ^ 33) near in
    let start = c.len-start.ensures in
    subst (λ n. AreNearFolds is_plus before numbers n c.loop-column.values.items) (sym (c.loop-column.values.ok.0 ∙ kept.count))
    (kept.folds low is_plus before count some few sign (subst (λ n. IsRow before numbers n c.args.inner count) (sym start) row)
    (subst (λ n. AreNearFolds is_plus before numbers n c.args.values.now.items) (sym start) had))
