use Rattle.std.proofs.Common.{◌≡◌, ◌+◌, ◌-◌, ◌<◌, length, slice_index, rules, ap, sym, ◌∙◌, arith}
use Rattle.std.specs.Prelude.{drop, remove}
use Rattle.std.proofs.lemmas.List.{length-map}
use Rattle.apl_array.specs.Shape.{count_of}
use Rattle.apl_reduce.proofs.Reductions.{facts_along, item_within}
use Rattle.apl_reduce.proofs.axis_items.AxisItems.new.Goals as goal

pub inner-inner-requires-clause-some : goal.inner-inner-requires-clause-some
inner-inner-requires-clause-some g c =
    let b = c.args.b.now in
    let same : c.shape-2.result.now ≡ b.shape = c.shape-2.ensures.shape in
    let here : 0 < count_of (remove b.shape c.args.k) = omega (arith, c.requires.some, ap count_of c.requires.shape) in
    let item : 0 < slice_index b.shape c.args.k = omega (arith, c.requires.two) in
    let within = item_within c.places_match_index_lists.ensures.lawful c.places_match_index_lists.ensures.below c.inserted_index_has_place.ensures.lawful c.inserted_index_has_place.ensures.place
    b c.args.k c.requires.axis 0 0 here item in
    rw same (omega (arith, within))

pub overflow_mul-result : goal.overflow_mul-result
overflow_mul-result g c =
    let b = c.args.b.now in
    let facts = facts_along c.inserted_index_has_place.ensures.count c.replaced_index_has_place.ensures.count b.shape c.args.shape.now c.args.k c.requires.axis c.requires.shape c.requires.some c.shape.ensures.lawful.shape.count in
    let items : c.axis-items.result ≡ slice_index b.shape c.args.k = c.axis-items.ensures.length ∙ ap (λ s. slice_index s c.args.k) c.shape.ensures.shape in
    let inner : c.inner-inner.result ≡ count_of (drop (c.args.k + 1) b.shape) = c.inner-inner.ensures.inner ∙ ap (λ s. count_of (drop (c.args.k + 1) s)) c.shape-2.ensures.shape in
    rw (items, inner) (omega (arith, facts.block_most))

pub new-requires-clause-some : goal.new-requires-clause-some
new-requires-clause-some g c =
    let b = c.args.b.now in
    let facts = facts_along c.inserted_index_has_place.ensures.count c.replaced_index_has_place.ensures.count b.shape c.args.shape.now c.args.k c.requires.axis c.requires.shape c.requires.some c.shape.ensures.lawful.shape.count in
    let inner : c.inner-inner.result ≡ count_of (drop (c.args.k + 1) b.shape) = c.inner-inner.ensures.inner ∙ ap (λ s. count_of (drop (c.args.k + 1) s)) c.shape-2.ensures.shape in
    rw inner facts.inner_some

pub invariant_of-result : goal.invariant_of-result
invariant_of-result g c =
    let b = c.args.b.now in
    let elem_of = g.T.ElementType.elem_of in
    let n = slice_index b.shape c.args.k in
    let items : c.axis-items.result ≡ n = c.axis-items.ensures.length ∙ ap (λ s. slice_index s c.args.k) c.shape.ensures.shape in
    let inner : c.inner-inner.result ≡ count_of (drop (c.args.k + 1) b.shape) = c.inner-inner.ensures.inner ∙ ap (λ s. count_of (drop (c.args.k + 1) s)) c.shape-2.ensures.shape in
    let by : c.new.result ≡ count_of (drop (c.args.k + 1) b.shape) = c.new.ensures ∙ inner in
    let all : length c.args.elements.now ≡ count_of b.shape = sym (ap length c.requires.ravel ∙ length-map c.args.elements.now elem_of) ∙ c.shape.ensures.lawful.len in
    let counts : c.count-count.result ≡ count_of (remove b.shape c.args.k) = c.count-count.ensures.count ∙ ap count_of c.requires.shape in
    record {
      most = omega (arith, c.count-count.ensures.count, c.count-count.ensures.lawful.count);
      elements_most = omega (arith, all, c.shape.ensures.lawful.shape.count);
      two = omega (arith, items, c.requires.two);
      most_items = search rules;
      within = λ place inside.
          let here : place < count_of (remove b.shape c.args.k) = omega (arith, inside, counts) in
          let last : n - 1 < n = omega (arith, c.requires.two) in
          rw (by, inner, items, all) (item_within c.places_match_index_lists.ensures.lawful c.places_match_index_lists.ensures.below c.inserted_index_has_place.ensures.lawful c.inserted_index_has_place.ensures.place
          b c.args.k c.requires.axis place (n - 1) here last);
    }
