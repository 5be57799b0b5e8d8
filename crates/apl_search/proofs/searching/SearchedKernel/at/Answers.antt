use Rattle.std.proofs.Common.{◌≡◌, Ok, pos, get_or, to_z, of_z, w64, refl, ap, ◌∙◌, rules}
use Rattle.apl_search.specs.Keys.{keys_in}
use Rattle.apl_search.specs.Tables.{place_of}
use Rattle.apl_search.proofs.searching.SearchedKernel.at.Goals as goal

pub returns : goal.returns
returns g c =
    let self = c.args.self.now in
    let numbers = keys_in self.list.elements in
    let key : to_z w64 (of_z w64 c.key_at.result) ≡ get_or (keys_in self.elements) c.args.place (pos 0) = (let e = c.key_at.ensures in search rules) in
    let place : c.place-found.result ≡ place_of numbers (get_or (keys_in self.elements) c.args.place (pos 0)) = c.place-found.ensures.place ∙ ap (place_of numbers) key in
    ap Ok (c.value.ensures ∙ rw (c.count.ensures.count, place) refl)
