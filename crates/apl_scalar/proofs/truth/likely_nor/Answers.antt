use Rattle.std.proofs.Common.{◌≡◌, Ok, of_z, to_z, FitsSigned, w64, refl}
use Rattle.std.specs.Prelude.{not, ◌||◌}
use Rattle.std.specs.Int.Bits.{bit_or, bit_xor}
use Rattle.std.proofs.lemmas.Int.{to_z-of_z}
use Rattle.apl_scalar.specs.Scalar.{logical}
use Rattle.apl_scalar.proofs.Bits.{from_bits}
use Rattle.apl_scalar.proofs.truth.likely_nor.Goals as goal

pub returns : goal.returns
returns c = λ none.
    let left : FitsSigned w64 c.args.x = c.ranges.x in
    let right : FitsSigned w64 c.args.y = c.ranges.y in
    let are = simp to_z-of_z at (c.higher_bits.ensures none) in
    from_bits c.args.x c.args.y are (λ x y. logical (λ p q. not (p || q)) x y ≡ Ok (to_z w64 (bit_xor (bit_or (of_z w64 x) (of_z w64 y)) 1))) refl refl refl refl
