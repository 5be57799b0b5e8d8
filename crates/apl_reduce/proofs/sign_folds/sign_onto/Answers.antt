use Rattle.std.proofs.Common.{◌≡◌, inl, inr, pos, ◌^◌, ◌<◌, ◌-ℤ◌, ◌*ℤ◌, Ok, to_z, of_z, w64, sym, ap, ◌∙◌, arith, rules}
use Rattle.std.specs.Prelude.{unsigned_abs}
use Rattle.std.proofs.lemmas.Int.{to_z-of_z}
use Rattle.apl_reduce.specs.SignFolds.{AreUnits}
use Rattle.apl_reduce.proofs.SignFolds.{near_from_bits, negative_sign, negated}
use Rattle.apl_reduce.proofs.sign_folds.sign_onto.Goals as goal
use Rattle.apl_reduce.proofs.sign_folds.sign_onto.Goals.{then-run-eq0, else-run-eq0}

pub returns-else-run : goal.returns-else-run
returns-else-run g c =
    let t = c.args.total in
    let run = c.of_halves-run.result in
    let read : to_z w64 (of_z w64 t) ≡ t = to_z-of_z w64 t c.ranges.total in
    let near : unsigned_abs t < 2 ^ 63 = near_from_bits t c.ranges.total c.if-total-eqminus9223372036854775808.false in
    let units : AreUnits run.sums =
    elim c.if-run-eq0.branch [
      | then-run-eq0 w ↦ inl (search rules)
      | else-run-eq0 w ↦ inr (search rules)
    ] in
    c.of_halves-run.ensures units t near
    ∙ ap (λ (z : _). Ok z) (ap (λ s. s *ℤ t) (negative_sign run.signs (omega (arith, c.if-run.false)) (search rules)) ∙ sym (negated t near) ∙ ap (λ z. to_z w64 (of_z w64 (pos 0 -ℤ z))) (sym read))
