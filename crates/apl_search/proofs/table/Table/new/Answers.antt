use Rattle.std.proofs.Common.{◌≡◌, pos, ◌+◌, ◌≤◌, ◌≤ℤ◌, ◌-◌, ◌^◌, All, length, map, take, drop, ◌++◌, to_z, of_z, w64, sym, ap, subst, ◌∙◌, arith, rules}
use Rattle.std.proofs.Math.Seq.{take-append_seam}
use Rattle.std.proofs.lemmas.Int.{ints}
use Rattle.std.proofs.lemmas.List.{length-map}
use Rattle.apl_pool.specs.declared.kernel.TheConstants.{MOST_PLACES}
use Rattle.apl_search.specs.Tables.{IsTable}
use Rattle.apl_search.proofs.Tables.{within_ends, entries_within}
use Rattle.apl_search.proofs.table.Table.new.Goals as goal

pub write_places-requires-clause-within : goal.write_places-requires-clause-within
write_places-requires-clause-within g c =
    let least = to_z w64 (of_z w64 c.ends-least.result.0) in
    let greatest = to_z w64 (of_z w64 c.ends-least.result.1) in
    let all : All (λ v. (least ≤ℤ g.T.Keyed.key v) × (g.T.Keyed.key v ≤ℤ greatest)) c.args.values.now = search rules in
    let some : least ≤ℤ greatest = search rules in
    let long : length c.as_mut_slice.result.now ≡ c.distance-span.result + 2 = search rules in
    within_ends g.T.Keyed.key c.args.values.now least greatest c.distance-span.result (length c.as_mut_slice.result.now) all (c.distance-span.ensures.above some) long

pub returns : goal.returns
returns g c =
    let least = to_z w64 (of_z w64 c.ends-least.result.0) in
    let greatest = to_z w64 (of_z w64 c.ends-least.result.1) in
    let places = c.write_places.new.places in
    let numbers = map g.T.Keyed.key c.args.values.now in
    let all : All (λ v. (least ≤ℤ g.T.Keyed.key v) × (g.T.Keyed.key v ≤ℤ greatest)) c.args.values.now = search rules in
    let some : least ≤ℤ greatest = search rules in
    let span = c.distance-span.ensures.above some in
    let long : length places ≡ c.distance-span.result + 2 = search rules in
    let len : c.in_ok-places.places.len ≡ length places = search rules in
    let rest = drop (length places) c.in_ok-places.places.items in
    let most : greatest ≤ℤ pos (2 ^ 63 - 1) = search rules in
    subst (IsTable numbers least) (sym (ap (λ n. take n (places ++ rest)) len ∙ take-append_seam places rest))
    (record {
      within = within_ends g.T.Keyed.key c.args.values.now least greatest c.distance-span.result (length places) all span long;
      top = omega (arith, ints, long, span, most);
      each = c.write_places.ensures.each;
    })

pub invariant_of-result-clause-most : goal.invariant_of-result-clause-most
invariant_of-result-clause-most g c =
    let least = to_z w64 (of_z w64 c.ends-least.result.0) in
    let places = c.write_places.new.places in
    let numbers = map g.T.Keyed.key c.args.values.now in
    let len : c.in_ok-places.places.len ≡ length places = search rules in
    let rest = drop (length places) c.in_ok-places.places.items in
    let count : length numbers ≤ MOST_PLACES = omega (arith, length-map c.args.values.now g.T.Keyed.key, c.requires.count) in
    subst (All (λ p. p ≤ MOST_PLACES)) (sym (ap (λ n. take n (places ++ rest)) len ∙ take-append_seam places rest))
    (entries_within numbers least places count c.write_places.ensures.each)
