use Rattle.std.proofs.Common.{◌≡◌, ◌+◌, ◌-◌, ◌/◌, ◌%◌, ◌<◌, pos, take, drop, length, get_or, w64, FitsSigned, sym, ap, ◌∙◌, rules, arith}
use Rattle.std.proofs.Math.Nat.{zero-add}
use Rattle.std.proofs.lemmas.Int.{to_z-of_z}
use Rattle.apl_reduce.specs.Carrying.{digit_number}
use Rattle.apl_reduce.proofs.Carries.{above_zero}
use Rattle.apl_reduce.proofs.Encoded.{row_digit, radix_of_place, product_there}
use Rattle.apl_reduce.proofs.encoding.EncodingKernel.write_run.Goals as goal

pub write_digits-requires-clause-product : goal.write_digits-requires-clause-product
write_digits-requires-clause-product c =
    let own = c.args.self.now in
    let k = c.quotient-k.result in
    let product = c.in-Product.product in
    let width = own.apart (omega (arith, c.requires.order, c.requires.places)) in
    let row = c.quotient-k.ensures.value ∙ ap (λ n. c.args.from / n) width in
    let some : 0 < length own.numbers.now = omega (arith, width, c.quotient-k.ensures.some) in
    let inside = radix_of_place own.radices.now own.numbers.now c.args.from k some row (omega (arith, own.each, c.requires.order, c.requires.places)) in
    let stands = product_there own.radices.now own.behind.now k _ product (omega (arith, inside, own.behind_each)) c.in-Product.is (own.stand k inside) in
    let fits : FitsSigned w64 product = search rules in
    rw (to_z-of_z w64 product fits) (above_zero product (drop (k + 1) own.radices.now) stands)

pub returns-clause-values : goal.returns-clause-values
returns-clause-values c =
    let own = c.args.self.now in
    let radices = own.radices.now in
    let numbers = own.numbers.now in
    let from = c.args.from in
    let k = c.quotient-k.result in
    let first = c.remainder-first.result in
    let m = c.min-end.result - first in
    let product = c.in-Product.product in
    let width : own.width ≡ length numbers = own.apart (omega (arith, c.requires.order, c.requires.places)) in
    let row : k ≡ from / length numbers = c.quotient-k.ensures.value ∙ ap (λ n. from / n) width in
    let column : first ≡ from % length numbers = c.remainder-first.ensures.value ∙ ap (λ n. from % n) width in
    let some : 0 < length numbers = omega (arith, width, c.quotient-k.ensures.some) in
    let inside = radix_of_place radices numbers from k some row (omega (arith, own.each, c.requires.order, c.requires.places)) in
    let stands = product_there radices own.behind.now k _ product (omega (arith, inside, own.behind_each)) c.in-Product.is (own.stand k inside) in
    let a = get_or radices k (pos 0) in
    let radix_fits : FitsSigned w64 a = search rules in
    let product_fits : FitsSigned w64 product = search rules in
    let written = (rw (to_z-of_z w64 a radix_fits, to_z-of_z w64 product product_fits) at c.write_digits.ensures.values) (drop (k + 1) radices) stands in
    record {
      room = omega (arith, written.room);
      each = λ j d h.
          let here : j < c.write_digits.result = omega (arith, h) in
          row_digit radices numbers from k first m j row column (omega (arith, here, c.write_digits.ensures.count))
          ∙ ap (λ i. digit_number radices k (get_or (take m (drop first numbers)) i (pos 0))) (sym (zero-add j)) ∙ written.each j d (omega (arith, here));
    }
