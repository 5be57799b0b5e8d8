use Rattle.std.proofs.Common.{◌≡◌, Ok, true, w64, FitsSigned, sym, ap, ◌∙◌, rules}
use Rattle.std.proofs.lemmas.Int.{to_z-of_z}
use Rattle.apl_array.specs.Range.{IsInRange, in_range}
use Rattle.apl_scalar.specs.Arithmetic.{residue}
use Rattle.apl_reduce.specs.Encoding.{carry_past}
use Rattle.apl_reduce.proofs.encoding.digit_of_quotient.Goals as goal

pub returns : goal.returns
returns c after stands =
    let radix = c.args.radix in
    let number = c.args.number in
    let digit = c.in-Ok.digit in
    let left = residue radix (carry_past after number) in
    let near : FitsSigned w64 number = c.ranges.number in
    let range : IsInRange number = (c.range_is_decided.ensures.bits number).1 near in
    let fits : FitsSigned w64 digit = search rules in
    let taken : residue radix _ ≡ digit = search rules in
    let is : left ≡ digit = ap (residue radix) (sym (stands.carries number range)) ∙ taken in
    let within : in_range left ≡ true = (c.range_is_decided.ensures.decided left).1 ((c.range_is_decided.ensures.bits left).1 (rw is fits)) in
    rw (within, to_z-of_z w64 digit fits) (ap Ok is)
