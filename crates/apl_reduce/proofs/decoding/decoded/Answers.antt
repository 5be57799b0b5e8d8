use Rattle.std.proofs.Common.{◌≡◌, [], rules}
use Rattle.apl_reduce.specs.Decoding.{decoded}
use Rattle.apl_reduce.specs.Fronts.{served}
use Rattle.apl_reduce.proofs.Values.{decoded_element}
use Rattle.apl_reduce.proofs.decoding.decoded.Goals as goal

pub returns : goal.returns
returns g c =
    let decoding = c.args.decoding.now in
    let n = decoding.count in
    let radices = served n decoding.radices.is_single decoding.radices.numbers.now in
    let digits = served n decoding.digits.is_single decoding.digits.numbers.now in
    let shape : c.in-Ok.shape ≡ [] = search rules in
    rw shape at (c.fill_array.ensures (λ index. decoded n radices digits) (λ place inside. decoded_element n radices digits))
