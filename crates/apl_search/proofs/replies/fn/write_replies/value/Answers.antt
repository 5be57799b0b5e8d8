use Rattle.std.proofs.Common.{◌≡◌, pos, map, get_or, to_z, of_z, w64, sym, ap, ◌∙◌, rules}
use Rattle.std.proofs.lemmas.List.{get_or-map}
use Rattle.apl_search.specs.Tables.{place_of}
use Rattle.apl_search.proofs.replies.fn.write_replies.value.Goals as goal

pub returns : goal.returns
returns g c = λ numbers table.
    let key = g.T.Keyed.key in
    let elements = c.captures.elements.now in
    let number : to_z w64 (of_z w64 c.key.result) ≡ c.key.result = search rules in
    let here : get_or (map key elements) c.args.k (pos 0) ≡ c.key.result = get_or-map key elements c.args.k c.index-elements-k.result (pos 0) c.requires ∙ ap key (sym c.index-elements-k.is) ∙ sym c.key.ensures in
    let place : c.place.result ≡ place_of numbers (get_or (map key elements) c.args.k (pos 0)) = c.place.ensures.place numbers table ∙ ap (place_of numbers) (number ∙ sym here) in
    c.value.ensures ∙ ap (g.R.Reply.value c.captures.reply c.captures.count) place
