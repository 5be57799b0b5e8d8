use Rattle.std.proofs.Common.{◌<◌, pos, length, get_or, w64, ap, ◌∙◌, arith}
use Rattle.std.proofs.Math.Nat.{zero-add}
use Rattle.std.proofs.lemmas.Int.{to_z-of_z}
use Rattle.apl_scalar.specs.Arithmetic.{residue}
use Rattle.apl_scalar.specs.Scalar.{exact}
use Rattle.apl_reduce.specs.Encoding.{carry_past}
use Rattle.apl_reduce.proofs.encoding.write_digits.Goals as goal

pub returns-clause-values : goal.returns-clause-values
returns-clause-values c after stands =
    let radix = c.args.radix in
    let numbers = c.args.numbers.now in
    let written = rw (to_z-of_z w64 radix c.ranges.radix, to_z-of_z w64 c.args.product c.ranges.product) at c.write_each.ensures.each in
    record {
      room = omega (arith, c.write_each.ensures.len, c.requires.room);
      each = λ j d h.
          let within : j < length numbers = omega (arith, h) in
          ap (λ i. exact (residue radix (carry_past after (get_or numbers i (pos 0))))) (zero-add j) ∙ written j d within after stands;
    }
