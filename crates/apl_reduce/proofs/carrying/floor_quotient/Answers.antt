use Rattle.std.proofs.Common.{◌≡◌, pos, ◌<ℤ◌, ◌-ℤ◌, FitsSigned, to_z, of_z, w64, sym, ap, ◌∙◌, arith}
use Rattle.std.specs.Int.{w128, int_div_euclid, int_rem_euclid}
use Rattle.std.proofs.lemmas.Int.{ints, to_z-of_z}
use Rattle.apl_scalar.specs.Arithmetic.{floor_quotient}
use Rattle.apl_reduce.proofs.Casts.{wide}
use Rattle.apl_reduce.proofs.Quotients.{floor_above, floor_whole, floor_less, floor_near, above_zero}
use Rattle.apl_reduce.proofs.carrying.floor_quotient.Goals as goal
use Rattle.apl_reduce.proofs.carrying.floor_quotient.Goals.{else-radix-lt0-via-then-radix-lt0+else-rem_euclid-ne0, else-radix-lt0-via-else-radix-lt0}

pub returns-then-rem_euclid-ne0-clause-value : goal.returns-then-rem_euclid-ne0-clause-value
returns-then-rem_euclid-ne0-clause-value c =
    let number = c.args.number in
    let radix = c.args.radix in
    let fits : FitsSigned w64 radix = c.ranges.radix in
    let inside : FitsSigned w128 number = c.ranges.number in
    let below : radix <ℤ pos 0 = omega (arith, ints) in
    let quotient : c.div_euclid-quotient.result ≡ int_div_euclid number radix = rw (to_z-of_z w128 number inside, wide radix fits) at c.div_euclid-quotient.ensures in
    let rest : c.rem_euclid.result ≡ int_rem_euclid number radix = rw (to_z-of_z w128 number inside, wide radix fits) at c.rem_euclid.ensures.value in
    let some : int_rem_euclid number radix ≡ pos 0 → ⊥ = λ none. c.if-rem_euclid-ne0.true (ap (of_z w128) (rest ∙ none)) in
    let is : floor_quotient number radix ≡ c.div_euclid-quotient.result -ℤ pos 1 = floor_less number radix below some ∙ ap (λ q. q -ℤ pos 1) (sym quotient) in
    let near = rw is at (floor_near number radix c.requires.some) in
    rw is (omega (arith, ints))

pub returns-else-radix-lt0-clause-value : goal.returns-else-radix-lt0-clause-value
returns-else-radix-lt0-clause-value c =
    let number = c.args.number in
    let radix = c.args.radix in
    let fits : FitsSigned w64 radix = c.ranges.radix in
    let inside : FitsSigned w128 number = c.ranges.number in
    let quotient : c.div_euclid-quotient.result ≡ int_div_euclid number radix = rw (to_z-of_z w128 number inside, wide radix fits) at c.div_euclid-quotient.ensures in
    let read : to_z w128 (of_z w128 c.div_euclid-quotient.result) ≡ c.div_euclid-quotient.result = omega (arith, ints) in
    let is : floor_quotient number radix ≡ int_div_euclid number radix =
    elim c.else-radix-lt0.branch [
      | else-radix-lt0-via-then-radix-lt0+else-rem_euclid-ne0 w ↦
          (let below : radix <ℤ pos 0 = omega (arith, ints) in
          let rest : w.rem_euclid.result ≡ int_rem_euclid number radix = rw (to_z-of_z w128 number inside, wide radix fits) at w.rem_euclid.ensures.value in
          let none : w.rem_euclid.result ≡ pos 0 = omega (arith, ints) in
          floor_whole number radix below (sym rest ∙ none))
      | else-radix-lt0-via-else-radix-lt0 w ↦
          (let some = c.requires.some in
          let above : pos 0 <ℤ radix = above_zero radix some (omega (arith, ints)) in
          floor_above number radix above)
    ] in
    read ∙ quotient ∙ sym is
