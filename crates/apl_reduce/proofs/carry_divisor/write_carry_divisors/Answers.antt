use Rattle.std.proofs.Common.{◌≡◌, pos, ◌+◌, ◌-◌, ◌∷◌, drop, get_or, to_z, of_z, w64, subst, ◌∙◌, arith}
use Rattle.std.proofs.lemmas.Int.{to_z-of_z}
use Rattle.std.proofs.lemmas.List.{length-set}
use Rattle.apl_reduce.specs.declared.carry_divisor.CarryDivisor.TheVariants.{Nothing}
use Rattle.apl_reduce.specs.Carrying.{StandsFor}
use Rattle.apl_reduce.proofs.Carries.{from_place, set_down}
use Rattle.apl_reduce.proofs.carry_divisor.write_carry_divisors.Goals as goal

pub loop-k-preserved : goal.loop-k-preserved
loop-k-preserved c =
    let k = c.loop-k.k in
    let radices = c.args.radices.now in
    let behind = c.loop-k.behind in
    let all = c.loop-k.all in
    let kept = c.loop-k.invariant in
    let a = get_or radices (k - 1) (pos 0) in
    let read : to_z w64 (of_z w64 a) ≡ a = grind (arith, to_z-of_z) in
    let back : k - 1 + 1 ≡ k = omega arith in
    let here : drop (k - 1) radices ≡ a ∷ drop k radices = from_place radices k (pos 0) c.loop-k-test.true c.loop-k.auto.k in
    let next : StandsFor c.with-all.result (a ∷ drop k radices) =
    subst (λ z. StandsFor c.with-all.result (z ∷ drop k radices)) read (c.with-all.ensures (drop k radices) kept.all) in
    record {
      all = rw here next;
      each = length-set behind (k - 1) all ∙ kept.each;
      stand = λ j from within.
          set_down behind (k - 1) all Nothing (λ i x. StandsFor x (drop (i + 1) radices)) (omega (arith, kept.each)) (rw back kept.all)
          (λ i later inside. kept.stand i (omega (arith, back)) (omega (arith, kept.each))) j from (omega (arith, kept.each));
    }
