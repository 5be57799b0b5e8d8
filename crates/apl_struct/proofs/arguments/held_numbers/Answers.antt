use Rattle.std.proofs.Common.{◌≡◌, ap, ◌∙◌, rules}
use Rattle.apl_array.specs.Array.{number_array}
use Rattle.apl_answer.specs.Arguments.{is_numbers, numbers_of}
use Rattle.apl_struct.proofs.Counts.{numbers_kept}
use Rattle.apl_struct.proofs.arguments.held_numbers.Goals as goal

pub returns-in-Narrow : goal.returns-in-Narrow
returns-in-Narrow g c =
    let a = c.args.a.now in
    let items = c.in-Narrow.numbers.now in
    let array : a ≡ number_array a.shape items = c.in-Narrow.ensures.elements in
    record {
      numbers = (ap is_numbers array, ap numbers_of array ∙ numbers_kept items);
      refused = search rules;
      lawful = c.in-Narrow.ensures.lawful;
    }
