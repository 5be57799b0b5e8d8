use Rattle.std.proofs.Common.{◌≡◌, ℤ, ◌+◌, ◌<◌, ◌++◌, [], ◌∷◌, nat_eq, map, length, take, to_z, of_z, w64, sym, ap, subst, ◌∙◌, rules, arith}
use Rattle.std.proofs.lemmas.List.{length_push}
use Rattle.apl_array.specs.Array.{bit}
use Rattle.apl_scalar.specs.Scalar.{dyadic_numbers}
use Rattle.apl_summary.specs.Constants.{signed_function}
use Rattle.apl_summary.specs.Fronts.{HasMoreAppended}
use Rattle.apl_scan.specs.TruthLines.{IsTruthSum}
use Rattle.apl_scan.proofs.TruthScans.{one_more, one_more_appended, few}
use Rattle.apl_scan.proofs.truth_sums.append_some.Goals as goal

pub with-sum-requires : goal.with-sum-requires
with-sum-requires g c =
    let k = c.args.from + c.loop-offset.offset in
    let inside : k < length c.args.truths.now = omega (arith, c.loop-offset-test.true, c.requires.places) in
    (omega arith, (take k (map bit c.args.truths.now), c.loop-offset.invariant.sum, few c.args.truths.now k inside c.requires.most))

pub loop-offset-preserved : goal.loop-offset-preserved
loop-offset-preserved g c =
    let is_plus = nat_eq g.row.MINUS 0 in
    let step = dyadic_numbers (signed_function is_plus) in
    let truths = c.args.truths.now in
    let numbers = map bit truths in
    let from = c.args.from in
    let old = c.args.values.now.items in
    let k = from + c.loop-offset.offset in
    let kept = c.loop-offset.invariant in
    let values = c.loop-offset.values.items in
    let sum = c.with-sum.result in
    let inside : k < length truths = omega (arith, c.loop-offset-test.true, c.requires.places) in
    let fit = few truths k inside c.requires.most in
    let stored : to_z w64 (of_z w64 sum.total) ≡ sum.total = search rules in
    let pushed : c.push_reserved.new.self.items ≡ values ++ sum.total ∷ [] = c.push_reserved.ensures.items ∙ ap (λ (z : ℤ). values ++ z ∷ []) stored in
    let next : k + 1 ≡ from + (c.loop-offset.offset + 1) = omega arith in
    record {
      sum = subst (λ n. IsTruthSum is_plus sum.is_negated sum.total (take n numbers)) next
          (subst (IsTruthSum is_plus sum.is_negated sum.total) (one_more truths k inside) (c.with-sum.ensures.sum (take k numbers) kept.sum fit));
      folds = subst (λ l. HasMoreAppended step numbers from old l) (sym pushed)
          (one_more_appended step truths old values from c.loop-offset.offset sum.total inside kept.len (c.with-sum.ensures.total (take k numbers) kept.sum fit) kept.folds);
      len = ap length pushed ∙ length_push values sum.total ∙ omega (arith, kept.len);
      capacity = c.push_reserved.ensures.capacity ∙ kept.capacity;
    }

pub returns-clause-sum : goal.returns-clause-sum
returns-clause-sum g c =
    let sum = c.loop-offset.sum in
    let all : c.args.from + c.loop-offset.offset ≡ c.args.from + c.args.count = omega (arith, c.loop-offset-test.false, c.loop-offset.auto.offset-end) in
    subst (λ n. IsTruthSum (nat_eq g.row.MINUS 0) sum.is_negated sum.total (take n (map bit c.args.truths.now))) all c.loop-offset.invariant.sum
