use Rattle.std.proofs.Common.{map, ap, ◌∙◌}
use Rattle.apl_array.specs.declared.array.Elem.TheVariants.{Int}
use Rattle.apl_answer.proofs.Widened.{made_numbers}
use Rattle.apl_answer.proofs.numbers.made_numbers.Goals as goal

pub returns-in-Ok : goal.returns-in-Ok
returns-in-Ok g c = c.elements_are_numbers.ensures ∙ ap (map Int) (made_numbers g.T.Numeric.number_in c.args.elements.now c.in-Ok.numbers.items c.in-Ok.ensures.values)
