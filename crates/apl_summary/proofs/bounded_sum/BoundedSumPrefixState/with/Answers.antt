use Rattle.std.proofs.Common.{◌≡◌, neg_ℤ, ℤ, ◌-ℤ◌, ◌≤ℤ◌, nat_eq, Ok, to_z, of_z, w64, refl, sym, ap, ◌∙◌, rules, arith}
use Rattle.std.proofs.lemmas.Int.{ints}
use Rattle.apl_summary.specs.Fronts.{signed_total}
use Rattle.apl_summary.proofs.Fronts.{same_sign, bounded_value, bounded_front, bounded_total, bounded_in}
use Rattle.apl_summary.proofs.bounded_sum.BoundedSumPrefixState.with.Given.{Over}
use Rattle.apl_summary.proofs.bounded_sum.BoundedSumPrefixState.with.Goals as goal
use Rattle.apl_summary.proofs.bounded_sum.BoundedSumPrefixState.with.Goals.{After-is_minus-subtracts, After-total_with-total}

record Near (slack m x : ℤ) : Type 0 where
  pub most : m ≤ℤ slack
  pub low : neg_ℤ m ≤ℤ x
  pub high : x ≤ℤ m

number_is_near : (g : Over) (c : After-is_minus-subtracts g) → Near c.args.self.now.slack c.in_ok-magnitude.magnitude c.args.number
number_is_near g c =
    let fits = c.ranges.number in
    let kept : to_z w64 (of_z w64 c.args.number) ≡ c.args.number = search rules in
    let kept_slack : to_z w64 (of_z w64 c.args.self.now.slack) ≡ c.args.self.now.slack = search rules in
    let said = c.in_ok-magnitude.ensures in
    record { most = rw (kept_slack) at said.most; low = rw (kept) at said.least; high = rw (kept) at said.greatest }

slack_is : (g : Over) (c : After-is_minus-subtracts g) → to_z w64 (of_z w64 (to_z w64 (of_z w64 c.args.self.now.slack) -ℤ to_z w64 (of_z w64 c.in_ok-magnitude.magnitude))) ≡ c.args.self.now.slack -ℤ c.in_ok-magnitude.magnitude
slack_is g c =
    let s = c.args.self.now in
    let m = c.in_ok-magnitude.magnitude in
    let kept_m : to_z w64 (of_z w64 m) ≡ m = search rules in
    let kept_slack : to_z w64 (of_z w64 s.slack) ≡ s.slack = search rules in
    let near = number_is_near g c in
    let most = near.most in
    let low = near.low in
    let high = near.high in
    let some = s.some in
    let least = s.least in
    let greatest = s.greatest in
    let slack : to_z w64 (of_z w64 (s.slack -ℤ m)) ≡ s.slack -ℤ m = search rules in
    rw (kept_slack, kept_m) slack

total_is : (g : Over) (c : After-total_with-total g) → to_z w64 (of_z w64 c.total_with-total.result) ≡ signed_total c.is_minus-subtracts.result c.args.self.now.total c.args.number
total_is g c =
    let fits = c.ranges.number in
    let kept : to_z w64 (of_z w64 c.args.number) ≡ c.args.number = search rules in
    let kept_total : to_z w64 (of_z w64 c.args.self.now.total) ≡ c.args.self.now.total = search rules in
    let stored : to_z w64 (of_z w64 c.total_with-total.result) ≡ c.total_with-total.result = search rules in
    stored ∙ c.total_with-total.ensures ∙ rw (kept, kept_total) refl

pub total_with-total-requires : goal.total_with-total-requires
total_with-total-requires g c =
    let s = c.args.self.now in
    let fits = c.ranges.number in
    let kept : to_z w64 (of_z w64 c.args.number) ≡ c.args.number = search rules in
    let kept_total : to_z w64 (of_z w64 s.total) ≡ s.total = search rules in
    let near = number_is_near g (goal.at.total_with-total-requires g c).After-is_minus-subtracts in
    rw (kept, kept_total) (bounded_in c.is_minus-subtracts.result s.total s.slack c.in_ok-magnitude.magnitude c.args.number near.most near.low near.high s.least s.greatest)

pub invariant_of-result : goal.invariant_of-result
invariant_of-result g c =
    let s = c.args.self.now in
    let at = goal.at.invariant_of-result g c in
    let near = number_is_near g at.After-is_minus-subtracts in
    let most = near.most in
    let far = bounded_total c.is_minus-subtracts.result s.total s.slack c.in_ok-magnitude.magnitude c.args.number near.low near.high s.least s.greatest in
    rw (total_is g at.After-total_with-total, slack_is g at.After-is_minus-subtracts) (record { some = omega (arith, ints, most); least = far.0; greatest = far.1 })

pub returns-clause-value : goal.returns-clause-value
returns-clause-value g c = λ xs is.
    let is_plus = nat_eq g.row.MINUS 0 in
    let s = c.args.self.now in
    let at = goal.at.returns-clause-value g c in
    let near = number_is_near g at.After-is_minus-subtracts in
    let sign = c.is_minus-subtracts.ensures ∙ same_sign is_plus s.is_negated is.only_plus in
    let total = total_is g at.After-total_with-total ∙ ap (λ b. signed_total b s.total c.args.number) sign in
    bounded_value is_plus s.is_negated s.total s.slack c.in_ok-magnitude.magnitude c.args.number xs near.most near.low near.high is ∙ ap (λ z. Ok z) (sym total)

pub returns-clause-front : goal.returns-clause-front
returns-clause-front g c = λ xs is.
    let is_plus = nat_eq g.row.MINUS 0 in
    let s = c.args.self.now in
    let at = goal.at.returns-clause-front g c in
    let near = number_is_near g at.After-is_minus-subtracts in
    let least = s.least in
    let greatest = s.greatest in
    let sign = c.is_minus-subtracts.ensures ∙ same_sign is_plus s.is_negated is.only_plus in
    let total = total_is g at.After-total_with-total ∙ ap (λ b. signed_total b s.total c.args.number) sign in
    rw (c.is_minus-is_negated.ensures, total, slack_is g at.After-is_minus-subtracts)
    (bounded_front is_plus s.is_negated s.total s.slack c.in_ok-magnitude.magnitude c.args.number xs (omega (arith, ints, least, greatest)) near.low near.high is)
