use Rattle.std.proofs.Common.{pos, slice_index_or, w64, FitsSigned, rules}
use Rattle.std.proofs.lemmas.Int.{to_z-of_z}
use Rattle.apl_reduce.proofs.encoding.fn.write_digits.digit.Goals as goal

pub returns : goal.returns
returns c after stands =
    let radix = c.captures.radix in
    let product = c.captures.product in
    let number = slice_index_or c.captures.numbers.now c.args.j (pos 0) in
    let digit = c.digit_of_quotient.result in
    let radix_fits : FitsSigned w64 radix = search rules in
    let product_fits : FitsSigned w64 product = search rules in
    let number_fits : FitsSigned w64 number = search rules in
    let digit_fits : FitsSigned w64 digit = search rules in
    let is = rw (to_z-of_z w64 radix radix_fits, to_z-of_z w64 product product_fits, to_z-of_z w64 number number_fits) at c.digit_of_quotient.ensures in
    rw (to_z-of_z w64 digit digit_fits) (is after stands)
