use Rattle.std.proofs.Common.{◌≡◌, true, pos, negsuc, ◌≤ℤ◌, nat_eq, to_z, of_z, w64, sym, ap, subst, ◌∙◌, rules, arith}
use Rattle.std.proofs.lemmas.Int.{ints}
use Rattle.std.specs.Int.{w128}
use Rattle.apl_pool.specs.Summaries.{IsI64}
use Rattle.apl_summary.specs.declared.constants.Bounds.{Bounds}
use Rattle.apl_summary.specs.Constants.{are_in_range}
use Rattle.apl_summary.specs.Fronts.{all_with_plus}
use Rattle.apl_summary.proofs.SignedSums.{and_true, le_true}
use Rattle.apl_summary.proofs.Fronts.{total_in, constants_do}
use Rattle.apl_summary.proofs.running_sum.RunningSum.of.Goals as goal

pub narrow-requires : goal.narrow-requires
narrow-requires g c =
    let all = c.args.constants.now in
    let fit = subst (λ b. are_in_range b ≡ true) c.all_with_plus-bounds.ensures (sym c.are_in_range.ensures ∙ c.if-not-are_in_range.false) in
    let inside = total_in (nat_eq g.row.MINUS 0) all c.requires fit in
    let kept : to_z w128 (of_z w128 all.total) ≡ all.total = omega (arith, ints, inside.0, inside.1) in
    subst IsI64 (sym kept) inside

pub narrow-requires-2 : goal.narrow-requires-2
narrow-requires-2 g c =
    let bounds = c.all_with_plus-bounds.result in
    let kept : to_z w128 (of_z w128 bounds.least) ≡ bounds.least = search rules in
    let fit : are_in_range bounds ≡ true = sym c.are_in_range.ensures ∙ c.if-not-are_in_range.false in
    let low : negsuc 9223372036854775807 ≤ℤ bounds.least = le_true _ _ (and_true _ _ fit).0 in
    let tested = c.if-bounds-gt0.false in
    let high : to_z w128 (of_z w128 bounds.least) ≤ℤ pos 0 = grind (arith, ints, tested) in
    (omega (arith, ints, kept, low), omega (arith, ints, high))

pub returns-clause-outcome : goal.returns-clause-outcome
returns-clause-outcome g c = λ right range.
    let all = c.args.constants.now in
    let bounds = c.all_with_plus-bounds.result in
    let fit = subst (λ b. are_in_range b ≡ true) c.all_with_plus-bounds.ensures (sym c.are_in_range.ensures ∙ c.if-not-are_in_range.false) in
    let inside = total_in (nat_eq g.row.MINUS 0) all c.requires fit in
    let kept : to_z w128 (of_z w128 all.total) ≡ all.total = omega (arith, ints, inside.0, inside.1) in
    let kept_least : to_z w128 (of_z w128 bounds.least) ≡ bounds.least = search rules in
    let kept_greatest : to_z w128 (of_z w128 bounds.greatest) ≡ bounds.greatest = search rules in
    let stored : to_z w64 (of_z w64 c.narrow.result) ≡ c.narrow.result = search rules in
    let stored_least : to_z w64 (of_z w64 c.narrow-2.result) ≡ c.narrow-2.result = search rules in
    let stored_greatest : to_z w64 (of_z w64 c.narrow-3.result) ≡ c.narrow-3.result = search rules in
    let total : to_z w64 (of_z w64 c.narrow.result) ≡ all.total = stored ∙ c.narrow.ensures ∙ kept in
    let least : to_z w64 (of_z w64 c.narrow-2.result) ≡ (all_with_plus all).least = stored_least ∙ c.narrow-2.ensures ∙ kept_least ∙ ap (λ (b : Bounds). b.least) c.all_with_plus-bounds.ensures in
    let greatest : to_z w64 (of_z w64 c.narrow-3.result) ≡ (all_with_plus all).greatest = stored_greatest ∙ c.narrow-3.ensures ∙ kept_greatest ∙ ap (λ (b : Bounds). b.greatest) c.all_with_plus-bounds.ensures in
    rw (total, least, greatest) (constants_do all right)
