use Rattle.std.proofs.Common.{◌≡◌, to_z, of_z, w64, ap, subst, ◌∙◌, rules}
use Rattle.apl_search.specs.Finding.{ArePlaces}
use Rattle.apl_search.specs.Tables.{place_of}
use Rattle.apl_search.proofs.finding.Places.first.Goals as goal

pub returns-in-InTable : goal.returns-in-InTable
returns-in-InTable c = λ numbers places.
    let number : to_z w64 (of_z w64 c.args.number) ≡ c.args.number = search rules in
    let table = subst (ArePlaces numbers) c.in-InTable.is places in
    c.place.ensures.place numbers (rw (c.entries.ensures.least, c.entries.ensures.places) table) ∙ ap (place_of numbers) number
