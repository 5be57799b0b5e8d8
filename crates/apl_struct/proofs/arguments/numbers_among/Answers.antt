use Rattle.std.proofs.Common.{◌≡◌, ap, ◌∙◌, rules}
use Rattle.apl_array.specs.Array.{ArrayValue, number_array}
use Rattle.apl_answer.specs.Arguments.{is_numbers, numbers_of}
use Rattle.apl_answer.specs.Numbers.{number_list}
use Rattle.apl_struct.proofs.Counts.{numbers_kept}
use Rattle.apl_struct.proofs.arguments.numbers_among.Goals as goal

pub returns-in-Some : goal.returns-in-Some
returns-in-Some g c =
    let a = c.args.a.now in
    let numbers = number_list c.in-Some.numbers in
    let array : a ≡ number_array a.shape numbers = rw c.in-Some.is at c.in_ok-numbers.ensures.numbers in
    record {
      numbers = (ap is_numbers array, ap numbers_of array ∙ numbers_kept numbers);
      ravel = ap (λ (b : ArrayValue). b.ravel) array;
      refused = search rules;
      lawful = search rules;
    }
