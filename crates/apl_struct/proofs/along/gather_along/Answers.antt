use Rattle.std.proofs.Common.{◌≡◌, ◌+◌, ◌*◌, ◌/◌, ◌%◌, ◌<◌, ◌≤◌, Err, inl, inr, length, drop, take, slice_index, ap, sym, ◌∙◌, arith, rules}
use Rattle.std.specs.Prelude.{slice_set, option_map}
use Rattle.std.proofs.Math.Nat.{mod-lt, mul-pos}
use Rattle.std.proofs.lemmas.List.{drop-set-lt, get_or-set_same}
use Rattle.apl_array.specs.Shape.{count_of, index_at}
use Rattle.apl_walk.specs.Gathered.{filled_at}
use Rattle.apl_walk.specs.Maps.{map_extent, map_step}
use Rattle.apl_struct.specs.Along.{taking_index}
use Rattle.apl_struct.specs.Compressing.{as_vector}
use Rattle.apl_struct.specs.Gathering.{element_or_fill}
use Rattle.apl_struct.proofs.Takings.{axis_of_vector, stride_of, stride_most, along_element, taking_below}
use Rattle.apl_struct.proofs.Elements.{AxisFacts, axis_facts}
use Rattle.apl_struct.proofs.along.gather_along.Given.{Over}
use Rattle.apl_struct.proofs.along.gather_along.Goals as goal
use Rattle.apl_struct.proofs.along.gather_along.Goals.{After-axis}

facts : (g : Over) (c : After-axis g) → let shape = (as_vector c.args.length c.args.b.now).shape in let long = c.axis.result in let apart = c.inner-inner.result in
    (c.args.k < length shape) × (long ≡ c.args.extent) × (apart ≡ count_of (drop (c.args.k + 1) shape)) × AxisFacts (count_of (take c.args.k shape)) long apart c.count-2.result
facts g c =
    let k = c.args.k in
    let shape = (as_vector c.args.length c.args.b.now).shape in
    let m = c.args.extent in
    let shape_is = (c.in_ok-shape.ensures c.args.length).1 in
    let wide : k < length shape = axis_of_vector c.args.length k c.args.b.now c.requires.axis in
    let long : c.axis.result ≡ m = c.axis.ensures.length ∙ ap (λ s. slice_index s k) shape_is ∙ get_or-set_same shape k m 0 wide in
    let apart : c.inner-inner.result ≡ count_of (drop (k + 1) shape) =
    c.inner-inner.ensures.inner ∙ ap (λ s. count_of (drop (k + 1) s)) shape_is ∙ ap count_of (drop-set-lt (k + 1) shape k m (omega arith)) in
    let count : c.count-2.result ≡ count_of (take k shape) * c.axis.result * c.inner-inner.result =
    rw (long, apart) (c.count-2.ensures.count ∙ ap count_of shape_is ∙ c.changed_axis_has_place.ensures.count shape k m wide) in
    (wide, long, apart, axis_facts (count_of (take k shape)) c.axis.result c.inner-inner.result c.count-2.result count (omega (arith, c.count-2.ensures.count, c.count.ensures.count)))

pub returns-in_err-shape : goal.returns-in_err-shape
returns-in_err-shape g c = λ element same.
    let is : c.from_residual.result ≡ Err c.in_err-shape.field-0.0 = search rules in
    elim (c.in_err-shape.ensures c.args.length) [
      | inl memory ↦ inr (is ∙ ap Err memory)
      | inr limit ↦ rw limit.1 (inl (is ∙ ap Err limit.0))
    ]

pub returns-then-count-eq0 : goal.returns-then-count-eq0
returns-then-count-eq0 g c = λ element same. let made = c.in_ok-shape.ensures c.args.length in rw (made.0, sym made.1) (c.empty.ensures element)

pub overflow_mul-outer : goal.overflow_mul-outer
overflow_mul-outer g c = omega (arith, (facts g c).3.line_most, c.count-2.ensures.lawful.count)

pub nonzero_div-outer : goal.nonzero_div-outer
nonzero_div-outer g c = let axis = (facts g c).3 in mul-pos axis.length_some axis.inner_some

pub nonzero_div-block : goal.nonzero_div-block
nonzero_div-block g c = let axis = (facts g (goal.at.nonzero_div-block g c).After-axis).3 in rw axis.outer_is axis.outer_some

pub map-map-requires-clause-near : goal.map-map-requires-clause-near
map-map-requires-clause-near g c =
    let known = facts g (goal.at.map-map-requires-clause-near g c).After-axis in
    let apart = c.inner-inner.result in
    let near : c.args.length * stride_of c.args.b.now apart ≤ count_of c.args.b.now.shape =
    stride_most c.replaced_index_has_place.ensures.count c.args.b.now c.args.length c.args.k apart c.requires.axis c.requires.length known.2 known.3.outer_some in
    let is : c.stride_of.result ≡ stride_of c.args.b.now apart = c.stride_of.ensures in
    rw is (omega (arith, near, c.shape-2.ensures.lawful.shape.count))

pub map-map-requires-clause-some : goal.map-map-requires-clause-some
map-map-requires-clause-some g c = let known = facts g (goal.at.map-map-requires-clause-some g c).After-axis in omega (arith, known.3.length_some, known.1, c.requires.extent)

pub walk_along-requires : goal.walk_along-requires
walk_along-requires g c =
    let known = facts g (goal.at.walk_along-requires g c).After-axis in
    let extent : map_extent c.map-map.result ≡ c.axis.result = c.map-map.ensures.extent ∙ sym c.requires.extent ∙ sym known.1 in
    record {
      outer = rw known.3.outer_is known.3.outer_some;
      inner = known.3.inner_some;
      some = rw extent known.3.length_some;
      most = rw (extent, known.3.outer_is) (omega (arith, known.3.count_is, c.count-2.ensures.count, c.count-2.ensures.lawful.count));
      near = search rules;
    }

pub gather-requires-clause-extent : goal.gather-requires-clause-extent
gather-requires-clause-extent g c = λ lifetimes outlive.
    let known = facts g (goal.at.gather-requires-clause-extent g c).After-axis in
    let extent : map_extent c.map-map.result ≡ c.axis.result = c.map-map.ensures.extent ∙ sym c.requires.extent ∙ sym known.1 in
    (rw (extent, known.3.outer_is) at c.in_ok-walk.ensures.extent) ∙ sym known.3.count_is ∙ c.count-2.ensures.count

pub returns : goal.returns
returns g c = λ element same.
    let known = facts g (goal.at.returns g c).After-axis in
    let law = c.places_match_index_lists.ensures in
    let line = c.changed_axis_has_place.ensures in
    let b = c.args.b.now in
    let n = c.args.length in
    let k = c.args.k in
    let taken = taking_index n c.args.taking in
    let m = c.args.extent in
    let vector = as_vector n b in
    let inner = count_of (drop (k + 1) vector.shape) in
    let outer = count_of (take k vector.shape) in
    let map = c.map-map.result in
    let apart = c.inner-inner.result in
    let blocks = c.count-2.result / (c.axis.result * apart) in
    let made = c.in_ok-shape.ensures n in
    let shape_is : c.in_ok-shape.shape ≡ slice_set vector.shape k m = made.1 in
    let extent : map_extent map ≡ m = c.map-map.ensures.extent ∙ sym c.requires.extent in
    let block_is : c.count-3.result / blocks ≡ count_of b.shape / outer =
    ap (λ o. c.count-3.result / o) known.3.outer_is ∙ ap (λ p. p / outer) (c.count-3.ensures.count ∙ ap count_of c.shape-2.ensures.shape) in
    rw made.0 ((rw shape_is at c.gather.ensures) element (λ place inside.
    let reached : place < blocks * (map_extent map * apart) =
    rw (extent, sym known.1, known.3.outer_is) (omega (arith, known.3.count_is, c.count-2.ensures.count, ap count_of shape_is, inside)) in
    let placed = rw (block_is, extent, known.2) at (c.in_ok-walk.ensures.place place reached) in
    let i = place / inner % m in
    let i_below : i < m = mod-lt (place / inner) (rw known.1 at known.3.length_some) in
    let step : map_step map i ≡ option_map (λ j. j * stride_of b inner) (taken i) =
    c.map-map.ensures.step i ∙ ap (λ s. option_map (λ j. j * s) (taken i)) (c.stride_of.ensures ∙ ap (stride_of b) known.2) in
    let index = index_at (slice_set vector.shape k m) place in
    ap (filled_at b) placed
    ∙ along_element law.below law.lawful c.replaced_index_has_place.ensures.count line.lawful line.place b n k m place (map_step map i) (taken i)
    c.shape-2.ensures.lawful c.requires.axis c.requires.length known.3.outer_some inside (taking_below n c.args.taking i c.requires.taking (omega (arith, i_below, c.requires.extent))) step
    ∙ ap (λ i. element_or_fill vector (option_map (slice_set index k) (taken i))) (sym (line.index vector.shape k m place known.0))
    ∙ same index (law.lawful (slice_set vector.shape k m) place inside)))
