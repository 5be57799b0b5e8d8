use Rattle.std.proofs.Common.{◌≡◌, pos, ◌-ℤ◌, ◌≤ℤ◌, nat_eq, to_z, of_z, w64, ◌∙◌, refl, rules, arith}
use Rattle.std.proofs.lemmas.Int.{ints, clamps}
use Rattle.std.specs.Int.{int_min, int_max}
use Rattle.apl_summary.proofs.Fronts.{sum_is_bounded}
use Rattle.apl_summary.proofs.bounded_sum.BoundedSum.of.Goals as goal

pub invariant_of-result : goal.invariant_of-result
invariant_of-result g c =
    let s = c.args.sum.now in
    let slack = c.in_ok-slack.slack in
    let kept_total : to_z w64 (of_z w64 s.total) ≡ s.total = search rules in
    let kept_slack : to_z w64 (of_z w64 slack) ≡ slack = search rules in
    let kept_low : to_z w64 (of_z w64 c.lesser_of-least.result) ≡ c.lesser_of-least.result = search rules in
    let kept_high : to_z w64 (of_z w64 c.greater_of-greatest.result) ≡ c.greater_of-greatest.result = search rules in
    let far = c.in_ok-slack.ensures in
    let low : (slack -ℤ pos 9223372036854775807) ≤ℤ c.lesser_of-least.result = rw (kept_low) at far.least in
    let high : c.greater_of-greatest.result ≤ℤ (pos 9223372036854775807 -ℤ slack) = rw (kept_high) at far.greatest in
    let least : c.lesser_of-least.result ≡ int_min (to_z w64 (of_z w64 s.least)) s.total = c.lesser_of-least.ensures ∙ rw (kept_total) refl in
    let greatest : c.greater_of-greatest.result ≡ int_max (to_z w64 (of_z w64 s.greatest)) s.total = c.greater_of-greatest.ensures ∙ rw (kept_total) refl in
    rw (kept_total, kept_slack) (record {
      some = far.some;
      least = omega (arith, ints, clamps, low, least);
      greatest = omega (arith, ints, clamps, high, greatest);
    })

pub returns : goal.returns
returns g c = λ numbers is.
    let s = c.args.sum.now in
    let slack = c.in_ok-slack.slack in
    let kept_total : to_z w64 (of_z w64 s.total) ≡ s.total = search rules in
    let kept_least : to_z w64 (of_z w64 s.least) ≡ s.least = search rules in
    let kept_greatest : to_z w64 (of_z w64 s.greatest) ≡ s.greatest = search rules in
    let kept_slack : to_z w64 (of_z w64 slack) ≡ slack = search rules in
    let kept_low : to_z w64 (of_z w64 c.lesser_of-least.result) ≡ c.lesser_of-least.result = search rules in
    let kept_high : to_z w64 (of_z w64 c.greater_of-greatest.result) ≡ c.greater_of-greatest.result = search rules in
    let far = c.in_ok-slack.ensures in
    let low : (slack -ℤ pos 9223372036854775807) ≤ℤ c.lesser_of-least.result = rw (kept_low) at far.least in
    let high : c.greater_of-greatest.result ≤ℤ (pos 9223372036854775807 -ℤ slack) = rw (kept_high) at far.greatest in
    let least_is : c.lesser_of-least.result ≡ int_min s.least s.total = c.lesser_of-least.ensures ∙ rw (kept_least, kept_total) refl in
    let greatest_is : c.greater_of-greatest.result ≡ int_max s.greatest s.total = c.greater_of-greatest.ensures ∙ rw (kept_greatest, kept_total) refl in
    let least : (slack -ℤ pos 9223372036854775807) ≤ℤ s.least = omega (arith, ints, clamps, low, least_is) in
    let greatest : s.greatest ≤ℤ (pos 9223372036854775807 -ℤ slack) = omega (arith, ints, clamps, high, greatest_is) in
    let zero = is.not_above in
    rw (kept_total, kept_slack) (sum_is_bounded (nat_eq g.row.MINUS 0) s.is_negated s.total s.least s.greatest slack numbers (omega (arith, ints, least, zero)) least greatest is)
