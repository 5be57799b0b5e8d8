use Rattle.std.proofs.Common.{◌≡◌, true, sym, ◌∙◌}
use Rattle.apl_scalar.specs.Scalar.{is_truth_valued}
use Rattle.apl_reduce.proofs.Joined.{outcome_is_element}
use Rattle.apl_reduce.proofs.outer_products.outer_array.Goals as goal

pub returns : goal.returns
returns g c outcome is = c.fill_array-2.ensures outcome (λ place inside. outcome_is_element _ ∙ is place inside)

pub returns-then-is_truth_valued : goal.returns-then-is_truth_valued
returns-then-is_truth_valued g c outcome is =
    let truth : is_truth_valued c.args.f ≡ true = sym c.is_truth_valued.ensures ∙ c.if-is_truth_valued.true in
    c.fill_array.ensures outcome (λ place inside. c.truth_values_are_results.ensures.dyadic c.args.f _ _ truth ∙ is place inside)
