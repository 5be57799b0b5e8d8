use Rattle.std.proofs.Common.{◌≡◌, ◌+◌, ◌<◌, ◌≤◌, ◌^◌, ℕ, ℤ, List, pos, drop, length, get_or, to_z, of_z, w64, FitsSigned, ap, ◌∙◌, rules, arith}
use Rattle.std.specs.Prelude.{unsigned_abs}
use Rattle.std.specs.Int.{w128}
use Rattle.std.proofs.lemmas.Int.{ints, to_z-of_z}
use Rattle.apl_array.specs.Range.{IsInRange}
use Rattle.apl_scalar.specs.Arithmetic.{residue}
use Rattle.apl_scalar.specs.Scalar.{exact}
use Rattle.apl_reduce.specs.declared.carry_divisor.CarryDivisor.{CarryDivisor}
use Rattle.apl_reduce.specs.declared.carry_divisor.CarryDivisor.TheVariants.{Nothing}
use Rattle.apl_reduce.specs.Encoding.{carry_past}
use Rattle.apl_reduce.specs.Carrying.{carry_by, StandsFor}
use Rattle.apl_reduce.proofs.Carries.{get_inside, carry_near}
use Rattle.apl_reduce.proofs.Casts.{size_within, within_128}
use Rattle.apl_reduce.proofs.encoding.Encoding.digit.Goals as goal

fits_range : (b : ℤ) → FitsSigned w64 b → IsInRange b
fits_range b fits = record { least = omega (arith, ints); greatest = omega (arith, ints) }

carried_there : (behind : List CarryDivisor) (radices : List ℤ) (k : ℕ) (there : CarryDivisor) (b carry : ℤ) → FitsSigned w64 b → k < length behind
    → StandsFor (get_or behind k Nothing) (drop (k + 1) radices) → carry ≡ carry_by (get_or behind k there) (to_z w64 (of_z w64 b))
    → carry ≡ carry_past (drop (k + 1) radices) b
carried_there behind radices k there b carry fits inside stands is =
    is ∙ ap (λ x. carry_by x (to_z w64 (of_z w64 b))) (get_inside behind k there Nothing inside) ∙ ap (carry_by (get_or behind k Nothing)) (to_z-of_z w64 b fits)
    ∙ stands.carries b (fits_range b fits)

near_there : (radices : List ℤ) (b carry : ℤ) → FitsSigned w64 b → carry ≡ carry_past radices b → unsigned_abs carry ≤ 2 ^ 63
near_there radices b carry fits is = rw is (let h = carry_near radices b in let i = size_within b fits in omega (arith, h, i))

pub digit_left-requires : goal.digit_left-requires
digit_left-requires c =
    let own = c.args.self.now in
    let k = c.args.k in
    let b = c.args.number in
    let carry = c.carry.result in
    let inside : k < length own.behind.now = omega (arith, own.behind_each, c.requires) in
    let is = carried_there own.behind.now own.radices.now k c.index-self-k.result b carry c.ranges.number inside (own.stand k c.requires) c.carry.ensures in
    let near : unsigned_abs carry ≤ 2 ^ 63 = near_there (drop (k + 1) own.radices.now) b carry c.ranges.number is in
    rw (to_z-of_z w128 carry (within_128 carry near)) near

pub returns : goal.returns
returns c =
    let own = c.args.self.now in
    let radices = own.radices.now in
    let k = c.args.k in
    let b = c.args.number in
    let carry = c.carry.result in
    let a = get_or radices k (pos 0) in
    let fits : FitsSigned w64 a = search rules in
    let inside : k < length own.behind.now = omega (arith, own.behind_each, c.requires) in
    let is = carried_there own.behind.now radices k c.index-self-k.result b carry c.ranges.number inside (own.stand k c.requires) c.carry.ensures in
    let near : unsigned_abs carry ≤ 2 ^ 63 = near_there (drop (k + 1) radices) b carry c.ranges.number is in
    c.digit_left.ensures ∙ ap (λ z. exact (residue z (to_z w128 (of_z w128 carry)))) (to_z-of_z w64 a fits)
    ∙ ap (λ z. exact (residue a z)) (to_z-of_z w128 carry (within_128 carry near) ∙ is)
