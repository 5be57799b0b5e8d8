use Rattle.std.proofs.Common.{◌≡◌, ◌-◌, length, min, get_or, to_z, of_z, w64, rules}
use Rattle.apl_search.specs.Tables.{place_of}
use Rattle.apl_search.proofs.Tables.{entry_is}
use Rattle.apl_search.proofs.table.Entries.place.Goals as goal

pub returns-clause-place : goal.returns-clause-place
returns-clause-place c = λ numbers table.
    let self = c.args.self.now in
    let places = self.places.now in
    let least : to_z w64 (of_z w64 self.least) ≡ self.least = search rules in
    let number : to_z w64 (of_z w64 c.args.number) ≡ c.args.number = search rules in
    let entry : c.min-entry.result ≡ min c.distance.result (length places - 1) = search rules in
    let above = rw (least, number) at c.distance.ensures.above in
    let below = rw (least, number) at c.distance.ensures.below in
    let is : get_or places c.min-entry.result 0 ≡ place_of numbers c.args.number = entry_is numbers self.least places table self.some c.args.number c.distance.result c.min-entry.result above below entry in
    search rules
