use Rattle.std.proofs.Common.{◌≡◌, ◌+◌, ◌-◌, ◌≤◌, ℕ, to_z, of_z, w64, sym, ap, ◌∙◌, subst, rules, arith}
use Rattle.apl_pool.specs.Summaries.{IsSummaryFrom}
use Rattle.apl_scalar.specs.Scalar.{dyadic_numbers}
use Rattle.apl_summary.specs.declared.constants.Constants.{Constants}
use Rattle.apl_summary.specs.Constants.{constants_of_one, constants_of_both, signed_function, signed_outcome, AreConstants}
use Rattle.apl_summary.specs.SmallConstants.{widened, AreSmallConstants}
use Rattle.apl_summary.proofs.SignedSums.{one_are, joined_are}
use Rattle.apl_summary.proofs.SmallRuns.{small_in_range, constants_behind, fits_behind}
use Rattle.apl_summary.proofs.small_constants.SmallConstants.with_places.Goals as goal

pub loop-offset-preserved : goal.loop-offset-preserved
loop-offset-preserved g c =
    let x = c.in_ok-item.item in
    let is_plus = c.args.is_plus in
    let outcome = g.K.Kernel.outcome c.args.kernel.now in
    let range = small_in_range x c.in_ok-item.ensures.small in
    let stored : to_z w64 (of_z w64 x) ≡ x = search rules in
    let before = widened c.loop-offset.constants in
    let value : widened c.behind-constants.result ≡ constants_of_both is_plus (constants_of_one is_plus x) before =
    c.behind-constants.ensures.value ∙ ap (λ z. constants_of_both is_plus (constants_of_one is_plus z) before) stored in
    let kept = c.loop-offset.invariant in
    let place = c.args.place - 1 - c.loop-offset.offset in
    let inside = c.loop-offset-test.true in
    let here : c.args.place - c.loop-offset.offset ≡ place + 1 = omega (arith, inside, c.requires.before) in
    let next : place ≡ c.args.place - (c.loop-offset.offset + 1) = omega arith in
    let most : 1 + before.count ≤ 1073741824 = omega (arith, inside, kept.count, c.requires.few) in
    let number = c.behind-constants.ensures.small.number_of_items in
    let Sums : ℕ → ℕ → Constants → Type 0 = λ from to s. IsSummaryFrom (dyadic_numbers (signed_function is_plus)) (λ (c : Constants). c.count) signed_outcome outcome from to s in
    record {
      count = omega (arith, kept.count, number);
      small = subst (λ (n : ℕ). AreSmallConstants n c.behind-constants.result) (sym number) c.behind-constants.ensures.small;
      lawful = subst (AreConstants is_plus) (sym value) (joined_are is_plus (constants_of_one is_plus x) before (one_are is_plus x range) kept.lawful (fits_behind is_plus x before most));
      summary = λ to order of.
          subst (λ n. Sums n to (widened c.behind-constants.result)) next (subst (Sums place to) (sym value)
          (constants_behind is_plus outcome place to x before (omega (arith, inside, order, c.requires.before)) c.in_ok-item.ensures.item range kept.lawful most (subst (λ n. Sums n to before) here (kept.summary to order of))));
    }

pub returns-clause-summary : goal.returns-clause-summary
returns-clause-summary g c = λ to order of.
    let end : c.args.place - c.loop-offset.offset ≡ c.args.place - c.args.count = omega (arith, c.loop-offset-test.false, c.loop-offset.auto.offset-end) in
    subst (λ n. IsSummaryFrom (dyadic_numbers (signed_function c.args.is_plus)) (λ (c : Constants). c.count) signed_outcome (g.K.Kernel.outcome c.args.kernel.now) n to (widened c.loop-offset.constants)) end (c.loop-offset.invariant.summary to order of)
