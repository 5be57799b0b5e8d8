use Rattle.std.proofs.Common.{◌≡◌, ◌+◌, ◌-◌, ◌*◌, ◌%◌, ◌≤◌, ℕ, to_z, of_z, w64, sym, ap, ◌∙◌, subst, rules, arith}
use Rattle.std.proofs.lemmas.Option.{IfSome_then}
use Rattle.apl_pool.specs.Summaries.{IsSummaryFrom}
use Rattle.apl_scalar.specs.Scalar.{dyadic_numbers}
use Rattle.apl_summary.specs.declared.constants.Constants.{Constants}
use Rattle.apl_summary.specs.Constants.{constants_of_one, signed_function, signed_outcome, AreConstants}
use Rattle.apl_summary.specs.SmallConstants.{widened, AreSmallConstants}
use Rattle.apl_summary.proofs.SignedSums.{one_are}
use Rattle.apl_summary.proofs.SmallRuns.{small_in_range, last_constants}
use Rattle.apl_summary.proofs.small_constants.small_constants.Goals as goal

pub loop-turn-init : goal.loop-turn-init
loop-turn-init g c =
    let x = c.in_ok-small_item.field-0 in
    let is_plus = c.args.is_plus in
    let outcome = g.K.Kernel.outcome c.args.kernel.now in
    let range = small_in_range x c.in_ok-small_item.ensures.small in
    let kept : to_z w64 (of_z w64 x) ≡ x = search rules in
    let value : widened c.one-constants.result ≡ constants_of_one is_plus x = c.one-constants.ensures.value ∙ ap (constants_of_one is_plus) kept in
    let number = c.one-constants.ensures.small.number_of_items in
    let place = c.args.to - 1 in
    let end : place + 1 ≡ c.args.to = omega arith in
    let none : place ≡ place - 0 * 4 = omega arith in
    let Sums : ℕ → ℕ → Constants → Type 0 = λ from to s. IsSummaryFrom (dyadic_numbers (signed_function is_plus)) (λ (c : Constants). c.count) signed_outcome outcome from to s in
    record {
      count = omega (arith, number);
      small = subst (λ (n : ℕ). AreSmallConstants n c.one-constants.result) (sym number) c.one-constants.ensures.small;
      lawful = subst (AreConstants is_plus) (sym value) (one_are is_plus x range);
      summary = subst (λ n. Sums n c.args.to (widened c.one-constants.result)) none
          (subst (λ s. Sums place c.args.to s) (sym value) (subst (λ n. Sums place n (constants_of_one is_plus x)) end (last_constants is_plus outcome place x c.in_ok-small_item.ensures.item range)));
    }

pub loop-turn-preserved : goal.loop-turn-preserved
loop-turn-preserved g c =
    let kept = c.loop-turn.invariant in
    let said = c.in_ok-next.ensures in
    let place = c.args.to - 1 - c.loop-turn.turn * 4 in
    let next : place - 4 ≡ c.args.to - 1 - (c.loop-turn.turn + 1) * 4 = omega arith in
    record {
      count = omega (arith, said.count, kept.count);
      small = said.small;
      lawful = said.lawful;
      summary = subst (λ n. IsSummaryFrom (dyadic_numbers (signed_function c.args.is_plus)) (λ (c : Constants). c.count) signed_outcome (g.K.Kernel.outcome c.args.kernel.now) n c.args.to (widened c.in_ok-next.next)) next
          (said.summary c.args.to (omega arith) kept.summary);
    }

pub returns-clause-summary : goal.returns-clause-summary
returns-clause-summary g c =
    let Sums : ℕ → Constants → Type 0 = λ from s. IsSummaryFrom (dyadic_numbers (signed_function c.args.is_plus)) (λ (c : Constants). c.count) signed_outcome (g.K.Kernel.outcome c.args.kernel.now) from c.args.to s in
    let rest = (c.args.to - 1 - c.args.from) % 4 in
    let start : c.args.to - 1 - c.loop-turn.turn * 4 ≡ c.args.from + rest = omega arith in
    let end : c.args.from + rest - rest ≡ c.args.from = omega arith in
    IfSome_then c.with_places-2.result c.with_places-2.ensures.summary
    (λ s p. subst (λ n. Sums n (widened s)) end (p c.args.to (omega arith) (subst (λ n. Sums n (widened c.loop-turn.constants)) start c.loop-turn.invariant.summary)))
