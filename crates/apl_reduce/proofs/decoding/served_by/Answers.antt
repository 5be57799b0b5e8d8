use Rattle.std.proofs.Common.{◌≡◌, sym, ap, ◌∙◌, rules}
use Rattle.apl_array.specs.Array.{number_array}
use Rattle.apl_answer.specs.Arguments.{is_number_kind, numbers_of}
use Rattle.apl_reduce.proofs.Numbers.{numbers_of_numbers}
use Rattle.apl_reduce.proofs.decoding.served_by.Goals as goal

pub returns : goal.returns
returns c =
    let a = c.args.a.now in
    let numbers = c.as_slice.result.now in
    let array : a ≡ number_array a.shape numbers = search rules in
    (ap (λ v. is_number_kind v.kind) array, sym (ap numbers_of array ∙ numbers_of_numbers numbers), search rules)
