use Rattle.std.proofs.Common.{◌≡◌, Ok, of_z, to_z, FitsSigned, w64, refl}
use Rattle.std.specs.Int.Bits.{bit_xor}
use Rattle.std.proofs.lemmas.Int.{to_z-of_z}
use Rattle.apl_scalar.specs.Scalar.{negation}
use Rattle.apl_scalar.proofs.Bits.{from_bits}
use Rattle.apl_scalar.proofs.truth.likely_negation.Goals as goal

pub returns : goal.returns
returns c = λ none.
    let number : FitsSigned w64 c.args.x = c.ranges.x in
    let are = simp to_z-of_z at (c.higher_bits.ensures none) in
    from_bits c.args.x c.args.x are (λ x y. negation x ≡ Ok (to_z w64 (bit_xor (of_z w64 x) 1))) refl refl refl refl
