use Rattle.std.proofs.Common.{◌≡◌, ◌-ℤ◌, pos, length, map, nat_lt, slice_index_or, to_z, of_z, w64, sym, ap, ◌∙◌, rules}
use Rattle.std.proofs.lemmas.Bool.{le-ltb}
use Rattle.std.proofs.lemmas.List.{get_or-map}
use Rattle.apl_array.specs.Axes.{is_below}
use Rattle.apl_struct.specs.Chosen.{chosen_value}
use Rattle.apl_struct.proofs.OneSlot.{chosen_past}
use Rattle.apl_struct.proofs.chosen.Indexes.element.Goals as goal

pub returns-else-index-elements : goal.returns-else-index-elements
returns-else-index-elements g c =
    let elements = c.args.elements.now in
    let first = c.args.self.first in
    let number = c.number.result in
    let index = c.above_first-index.result in
    let own : slice_index_or (map g.N.Numeric.number_in c.args.self.numbers.now) c.args.place (pos 0) ≡ number =
    get_or-map g.N.Numeric.number_in c.args.self.numbers.now c.args.place c.index-self-place.result (pos 0) c.requires.place ∙ sym c.number.ensures in
    let stored : to_z w64 (of_z w64 number) ≡ number = search rules in
    let test : nat_lt index (length elements) ≡ is_below (length elements) (number -ℤ pos first) = rw stored at (c.above_first-index.ensures.test (length elements) c.requires.most) in
    sym (chosen_past elements (number -ℤ pos first) (sym test ∙ le-ltb index (length elements) c.if-index-elements.false))
    ∙ ap (λ n. chosen_value elements (n -ℤ pos first)) (sym own)
