use Rattle.std.proofs.Common.{◌≡◌, pos, negsuc, ◌+ℤ◌, ◌-ℤ◌, nat_eq, cond, Ok, to_z, of_z, w64, refl, sym, ap, subst, ◌∙◌, rules, arith}
use Rattle.std.proofs.lemmas.Int.{ints}
use Rattle.std.specs.Int.{int_min, int_max}
use Rattle.apl_pool.specs.Summaries.{IsI64}
use Rattle.apl_summary.specs.Fronts.{signed_total}
use Rattle.apl_summary.proofs.Fronts.{same_sign, sum_value, sum_front, least_behind, greatest_behind}
use Rattle.apl_summary.proofs.running_sum.RunningSumPrefixState.with.Given.{Over}
use Rattle.apl_summary.proofs.running_sum.RunningSumPrefixState.with.Goals as goal
use Rattle.apl_summary.proofs.running_sum.RunningSumPrefixState.with.Goals.{After-is_minus-subtracts, After-is_minus-is_negated}

low_is : (g : Over) (c : After-is_minus-subtracts g) → c.in_ok-low.low ≡ c.args.self.now.least +ℤ c.args.number
low_is g c =
    let fits = c.ranges.number in
    let kept : to_z w64 (of_z w64 c.args.number) ≡ c.args.number = search rules in
    let kept_least : to_z w64 (of_z w64 c.args.self.now.least) ≡ c.args.self.now.least = search rules in
    c.in_ok-low.ensures.value ∙ rw (kept, kept_least) refl

high_is : (g : Over) (c : After-is_minus-subtracts g) → c.in_ok-high.high ≡ c.args.self.now.greatest +ℤ c.args.number
high_is g c =
    let fits = c.ranges.number in
    let kept : to_z w64 (of_z w64 c.args.number) ≡ c.args.number = search rules in
    let kept_greatest : to_z w64 (of_z w64 c.args.self.now.greatest) ≡ c.args.self.now.greatest = search rules in
    c.in_ok-high.ensures.value ∙ rw (kept, kept_greatest) refl

total_is : (g : Over) (c : After-is_minus-is_negated g) → to_z w64 (of_z w64 c.in_ok-total.total) ≡ signed_total c.is_minus-subtracts.result c.args.self.now.total c.args.number
total_is g c =
    let fits = c.ranges.number in
    let kept : to_z w64 (of_z w64 c.args.number) ≡ c.args.number = search rules in
    let kept_total : to_z w64 (of_z w64 c.args.self.now.total) ≡ c.args.self.now.total = search rules in
    let stored : to_z w64 (of_z w64 c.in_ok-total.total) ≡ c.in_ok-total.total = search rules in
    stored ∙ c.in_ok-total.ensures ∙ rw (kept, kept_total) refl

pub returns-clause-value : goal.returns-clause-value
returns-clause-value g c = λ xs is.
    let is_plus = nat_eq g.row.MINUS 0 in
    let s = c.args.self.now in
    let fits = c.ranges.number in
    let inside : IsI64 c.args.number = (omega (arith, ints), omega (arith, ints)) in
    let at = goal.at.returns-clause-value g c in
    let low = subst IsI64 (low_is g at.After-is_minus-subtracts) c.in_ok-low.ensures.range in
    let high = subst IsI64 (high_is g at.After-is_minus-subtracts) c.in_ok-high.ensures.range in
    let sign = c.is_minus-subtracts.ensures ∙ same_sign is_plus s.is_negated is.only_plus in
    let total = total_is g at.After-is_minus-is_negated ∙ ap (λ b. signed_total b s.total c.args.number) sign in
    sum_value is_plus s.is_negated s.total s.least s.greatest c.args.number xs inside low high is ∙ ap (λ z. Ok z) (sym total)

pub returns-clause-front : goal.returns-clause-front
returns-clause-front g c = λ xs is.
    let is_plus = nat_eq g.row.MINUS 0 in
    let s = c.args.self.now in
    let x = c.args.number in
    let at = goal.at.returns-clause-front g c in
    let sign = c.is_minus-subtracts.ensures ∙ same_sign is_plus s.is_negated is.only_plus in
    let total = total_is g at.After-is_minus-is_negated ∙ ap (λ b. signed_total b s.total x) sign in
    let stored_low : to_z w64 (of_z w64 c.in_ok-low.low) ≡ c.in_ok-low.low = search rules in
    let stored_high : to_z w64 (of_z w64 c.in_ok-high.high) ≡ c.in_ok-high.high = search rules in
    let low = stored_low ∙ low_is g at.After-is_minus-subtracts in
    let high = stored_high ∙ high_is g at.After-is_minus-subtracts in
    let stored_least : to_z w64 (of_z w64 c.next_bound-least.result) ≡ c.next_bound-least.result = search rules in
    let stored_greatest : to_z w64 (of_z w64 c.next_bound-greatest.result) ≡ c.next_bound-greatest.result = search rules in
    let end_least : to_z w64 (of_z w64 c.lesser_of.result) ≡ c.lesser_of.result = search rules in
    let end_greatest : to_z w64 (of_z w64 c.greater_of.result) ≡ c.greater_of.result = search rules in
    let bound_least : to_z w64 (of_z w64 c.next_bound-least.result) ≡ cond is_plus (s.least +ℤ x) (negsuc 0 -ℤ (s.greatest +ℤ x)) = stored_least ∙ c.next_bound-least.ensures ∙ rw (low, high) refl in
    let bound_greatest : to_z w64 (of_z w64 c.next_bound-greatest.result) ≡ cond is_plus (s.greatest +ℤ x) (negsuc 0 -ℤ (s.least +ℤ x)) = stored_greatest ∙ c.next_bound-greatest.ensures ∙ rw (low, high) refl in
    let least : to_z w64 (of_z w64 c.lesser_of.result) ≡ least_behind is_plus s.least s.greatest x = end_least ∙ c.lesser_of.ensures ∙ ap (λ z. int_min z (pos 0)) bound_least in
    let greatest : to_z w64 (of_z w64 c.greater_of.result) ≡ greatest_behind is_plus s.least s.greatest x = end_greatest ∙ c.greater_of.ensures ∙ ap (λ z. int_max z (pos 0)) bound_greatest in
    rw (c.is_minus-is_negated.ensures, total, least, greatest) (sum_front is_plus s.is_negated s.total s.least s.greatest x xs is)
