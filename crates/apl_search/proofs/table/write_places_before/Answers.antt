use Rattle.std.proofs.Common.{◌≡◌, ◌+◌, ◌-◌, ◌<◌, pos, ◌+ℤ◌, length, map, set, get_or, to_z, of_z, w64, sym, ap, subst, ◌∙◌, arith, rules}
use Rattle.std.proofs.lemmas.Int.{ints}
use Rattle.std.proofs.lemmas.List.{length-map, length-set, get_or-map}
use Rattle.apl_search.specs.Tables.{IsNumberWithin, ArePlacesFrom}
use Rattle.apl_search.proofs.Tables.{one_more}
use Rattle.apl_search.proofs.table.write_places_before.Goals as goal

least_read : (g : _) (c : goal.After-distance-entry g) → to_z w64 (of_z w64 c.args.least) ≡ c.args.least
least_read g c = search rules

-- the number at the place, and its entry
at_place : (g : _) (c : goal.After-distance-entry g) → let place = c.args.end - 1 - c.loop-k.k in
    (place < length c.args.values.now) × (get_or (map g.T.Keyed.key c.args.values.now) place c.key.result ≡ c.key.result)
    × (c.args.least +ℤ pos c.distance-entry.result ≡ c.key.result) × (c.distance-entry.result < length c.loop-k.places)
at_place g c =
    let key = g.T.Keyed.key in
    let values = c.args.values.now in
    let place = c.args.end - 1 - c.loop-k.k in
    let inside : place < length values = omega (arith, c.loop-k-test.true, c.requires.count, c.requires.end) in
    let at = c.requires.within place c.key.result (omega (arith, inside, length-map values key)) in
    let number : get_or (map key values) place c.key.result ≡ c.key.result = get_or-map key values place c.index-values-place.result c.key.result inside ∙ ap key (sym c.index-values-place.is) ∙ sym c.key.ensures in
    let near : IsNumberWithin c.args.least (length c.args.places.now) c.key.result = subst (IsNumberWithin c.args.least (length c.args.places.now)) number at in
    let read : to_z w64 (of_z w64 c.key.result) ≡ c.key.result = search rules in
    let above = rw (least_read g c, read) at c.distance-entry.ensures.above near.0 in
    (inside, number, above, omega (arith, ints, near.1, above, c.loop-k.invariant.len))

pub bounds-places-entry : goal.bounds-places-entry
bounds-places-entry g c = let entry = (at_place g c).3 in search rules

pub offset_bounds-places-entry : goal.offset_bounds-places-entry
offset_bounds-places-entry g c =
    let inside = bounds-places-entry g c in
    search rules

pub loop-k-preserved : goal.loop-k-preserved
loop-k-preserved g c =
    let key = g.T.Keyed.key in
    let values = c.args.values.now in
    let place = c.args.end - 1 - c.loop-k.k in
    let next : place + 1 ≡ c.args.end - c.loop-k.k = omega (arith, c.loop-k-test.true, c.requires.count) in
    let here : place ≡ c.args.end - (c.loop-k.k + 1) = omega arith in
    let before = c.loop-k.invariant in
    let at = at_place g c in
    record {
      len = length-set c.loop-k.places c.distance-entry.result place ∙ before.len;
      from = rw (least_read g c) (
          subst (λ n. ArePlacesFrom (map key values) c.args.least n (set c.loop-k.places c.distance-entry.result place)) here (
          one_more (map key values) c.args.least c.loop-k.places place c.distance-entry.result c.key.result (omega (arith, at.0, length-map values key)) at.1 at.2 at.3
          (subst (λ n. ArePlacesFrom (map key values) c.args.least n c.loop-k.places) (sym next) (rw (least_read g c) at before.from))));
    }
