use Rattle.std.proofs.Common.{◌≡◌, nat_eq, sym, ap, ◌∙◌, subst, arith}
use Rattle.std.proofs.lemmas.Int.{ints}
use mir.Syntax.{w64}
use mir.Val.{to_z, of_z}
use Rattle.apl_summary.specs.declared.constants.Constants.{Constants}
use Rattle.apl_summary.specs.Constants.{AreConstants, signed_outcome, constants_of_one}
use Rattle.apl_summary.proofs.SignedSums.{one_is, one_are, signed_in_range}
use Rattle.apl_summary.proofs.signed_sum.SignedSumSummary.one.Goals as goal

pub invariant_of-result : goal.invariant_of-result
invariant_of-result g c =
    let fits = c.ranges.item in
    let e : to_z w64 (of_z w64 c.args.item) ≡ c.args.item = omega (arith, ints) in
    record { lawful = subst (λ (p : Constants). AreConstants (nat_eq g.row.MINUS 0) p) (sym (c.one.ensures ∙ ap (constants_of_one (nat_eq g.row.MINUS 0)) e)) (one_are _ c.args.item (omega (arith, ints), omega (arith, ints))) }

pub returns-clause-outcome : goal.returns-clause-outcome
returns-clause-outcome g c = λ right h.
    let e : to_z w64 (of_z w64 c.args.item) ≡ c.args.item = omega (arith, ints) in
    ap (λ (p : Constants). signed_outcome p right) (c.one.ensures ∙ ap (constants_of_one (nat_eq g.row.MINUS 0)) e) ∙ one_is _ _ right h

pub returns-clause-range : goal.returns-clause-range
returns-clause-range g c = λ right z h o.
    let fits = c.ranges.item in
    let e : to_z w64 (of_z w64 c.args.item) ≡ c.args.item = omega (arith, ints) in
    signed_in_range (nat_eq g.row.MINUS 0) c.one.result right z (subst (λ (p : Constants). AreConstants (nat_eq g.row.MINUS 0) p) (sym (c.one.ensures ∙ ap (constants_of_one (nat_eq g.row.MINUS 0)) e)) (one_are _ c.args.item (omega (arith, ints), omega (arith, ints)))) h o
