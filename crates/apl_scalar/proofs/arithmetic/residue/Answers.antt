use Rattle.std.proofs.Common.{◌≡◌, pos, ◌+ℤ◌, ◌<ℤ◌, ◌≤ℤ◌, w64, FitsSigned, refl, sym, ap, ◌∙◌, arith}
use Rattle.std.proofs.lemmas.Int.{ints, to_z-of_z}
use Rattle.apl_scalar.specs.Arithmetic.{residue}
use Rattle.apl_scalar.proofs.Residues.{residue_pos, residue_zero, residue_neg, rem_natural}
use Rattle.apl_scalar.proofs.arithmetic.residue.Goals as goal
use Rattle.apl_scalar.proofs.arithmetic.residue.Goals.{else-a-lt0-via-then-a-lt0+else-rest-ne0, else-a-lt0-via-else-a-lt0}

pub returns-then-rest-ne0 : goal.returns-then-rest-ne0
returns-then-rest-ne0 c =
    let fa : FitsSigned w64 c.args.a = c.ranges.a in
    let fb : FitsSigned w64 c.args.b = c.ranges.b in
    let rest = simp to_z-of_z at c.wrapping_rem_euclid-rest.ensures in
    let below : c.args.a <ℤ pos 0 = omega (arith, ints) in
    let some : c.wrapping_rem_euclid-rest.result ≡ pos 0 → ⊥ = λ none. c.if-rest-ne0.true (omega (arith, ints, none)) in
    let is = residue_neg c.args.a c.args.b below (λ none. some (rest ∙ none)) in
    let is' : residue c.args.a c.args.b ≡ c.wrapping_rem_euclid-rest.result +ℤ c.args.a = is ∙ ap (λ r. r +ℤ c.args.a) (sym rest) in
    let natural : pos 0 ≤ℤ c.wrapping_rem_euclid-rest.result = rw rest (rem_natural c.args.b c.args.a) in
    rw is' (omega (arith, ints, natural))

pub returns-else-a-lt0 : goal.returns-else-a-lt0
returns-else-a-lt0 c =
    let fa : FitsSigned w64 c.args.a = c.ranges.a in
    let fb : FitsSigned w64 c.args.b = c.ranges.b in
    let rest = simp to_z-of_z at c.wrapping_rem_euclid-rest.ensures in
    elim c.else-a-lt0.branch [
      | else-a-lt0-via-then-a-lt0+else-rest-ne0 w ↦
          (let below : c.args.a <ℤ pos 0 = omega (arith, ints) in
          let t = w.if-rest-ne0.false in
          let none : c.wrapping_rem_euclid-rest.result ≡ pos 0 = omega (arith, ints) in
          let is = residue_zero c.args.a c.args.b below (sym rest ∙ none) in
          rw (is, none) refl)
      | else-a-lt0-via-else-a-lt0 w ↦
          (let above : pos 0 <ℤ c.args.a = omega (arith, ints) in
          let is = residue_pos c.args.a c.args.b above in
          rw (is, ← rest) (omega (arith, ints)))
    ]
