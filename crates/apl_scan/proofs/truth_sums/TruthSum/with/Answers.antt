use Rattle.std.proofs.Common.{◌≡◌, ℤ, nat_eq, Ok, to_z, of_z, w64, refl, sym, ap, ◌∙◌, rules}
use Rattle.apl_array.specs.Array.{bit}
use Rattle.apl_summary.specs.Fronts.{signed_total}
use Rattle.apl_scan.proofs.TruthSums.{sum_value, sum_next}
use Rattle.apl_scan.proofs.truth_sums.TruthSum.with.Given.{Over}
use Rattle.apl_scan.proofs.truth_sums.TruthSum.with.Goals as goal
use Rattle.apl_scan.proofs.truth_sums.TruthSum.with.Goals.{After-total_with-total}

total_is : (g : Over) (c : After-total_with-total g) → to_z w64 (of_z w64 c.total_with-total.result) ≡ signed_total c.args.self.now.is_negated c.args.self.now.total (bit c.args.truth)
total_is g c =
    let kept : to_z w64 (of_z w64 c.args.self.now.total) ≡ c.args.self.now.total = search rules in
    let stored : to_z w64 (of_z w64 c.total_with-total.result) ≡ c.total_with-total.result = search rules in
    stored ∙ c.total_with-total.ensures ∙ rw kept refl

pub returns-clause-total : goal.returns-clause-total
returns-clause-total g c = λ xs is few.
    let s = c.args.self.now in
    let total = total_is g (goal.at.returns-clause-total g c).After-total_with-total in
    sum_value (nat_eq g.row.MINUS 0) s.is_negated s.total c.args.truth xs is few ∙ ap (λ (z : ℤ). Ok z) (sym total)

pub returns-clause-sum : goal.returns-clause-sum
returns-clause-sum g c = λ xs is few.
    let s = c.args.self.now in
    let total = total_is g (goal.at.returns-clause-sum g c).After-total_with-total in
    rw (c.next_sign-is_negated.ensures, total) (sum_next (nat_eq g.row.MINUS 0) s.is_negated s.total c.args.truth xs is)
