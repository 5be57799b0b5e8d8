use Rattle.std.proofs.Common.{◌≡◌, ℕ, ◌-◌, ◌≤◌, ◌∷◌, drop, length, slice_index, refl, ap, ◌∙◌, arith}
use Rattle.std.specs.Prelude.{sum}
use Rattle.std.proofs.lemmas.List.FromFn.{length-map-range_with_len, get_or-map-range_with_len}
use Rattle.apl_array.specs.Transposition.{strides, items_onto, source_strides}
use Rattle.apl_walk.specs.Maps.{extent_of, walked}
use Rattle.apl_walk.specs.Walks.{maps_of}
use Rattle.apl_struct.proofs.Taken.{from_axis, axis_before}
use Rattle.apl_struct.proofs.Permuted.{stride_near, permuted_step}
use Rattle.apl_struct.proofs.permuting.transposed_walk.Goals as goal

pub whole-requires : goal.whole-requires
whole-requires c =
    let shape = c.args.shape.now in
    let argument = c.args.argument.now in
    let axes = c.args.axes.now in
    let into = c.requires.into in
    let inside : c.loop-j.j ≤ length shape = omega arith in
    let before = axis_before shape c.loop-j.j _ c.loop-j-test.true inside c.requires.some c.axis.ensures.lawful.count in
    let near = stride_near (c.loop-j.j - 1) (slice_index shape (c.loop-j.j - 1)) axes argument into.len (λ k here is. omega (arith, into.fits k here, ap (slice_index shape) is))
    c.requires.argument_some c.stride_along-stride.ensures.lawful.count in
    record {
      some = rw c.axis.ensures.length before.some;
      most = rw c.axis.ensures.length before.less;
      near = rw (c.axis.ensures.length, c.stride_along-stride.ensures.sum) (omega (arith, near, c.stride_along-stride.ensures.lawful.rank));
    }

pub with-requires-clause-extent : goal.with-requires-clause-extent
with-requires-clause-extent c =
    let shape = c.args.shape.now in
    let inside : c.loop-j.j ≤ length shape = omega arith in
    rw (c.whole.ensures.extent, c.axis.ensures.length, c.loop-j.invariant.extent) (axis_before shape c.loop-j.j _ c.loop-j-test.true inside c.requires.some c.axis.ensures.lawful.count).both

pub loop-j-preserved : goal.loop-j-preserved
loop-j-preserved c =
    let j = c.loop-j.j in
    let shape = c.args.shape.now in
    let axes = c.args.axes.now in
    let argument = c.args.argument.now in
    let f : ℕ → ℕ = λ axis. sum (items_onto axis axes (strides argument)) in
    let all_strides = source_strides (length shape) axes argument in
    let m = slice_index shape (j - 1) in
    let w = c.whole.result in
    let before = c.loop-j.walk in
    let inside : j ≤ length shape = omega arith in
    let long : length all_strides ≡ length shape = length-map-range_with_len f 0 (length shape) in
    let own : slice_index all_strides (j - 1) ≡ f (j - 1) = get_or-map-range_with_len f 0 (length shape) (j - 1) (j - 1) 0 (omega arith) (omega arith) in
    let shape_is : drop (j - 1) shape ≡ m ∷ drop j shape = from_axis shape j 0 c.loop-j-test.true inside in
    let strides_are : drop (j - 1) all_strides ≡ f (j - 1) ∷ drop j all_strides = from_axis all_strides j 0 c.loop-j-test.true (omega (arith, long)) ∙ ap (λ s. s ∷ drop j all_strides) own in
    let extent : w.extent ≡ m = c.whole.ensures.extent ∙ c.axis.ensures.length in
    let steps = rw (c.stride_along-stride.ensures.sum, c.axis.ensures.length) at c.whole.ensures.step in
    record {
      few = omega (arith, c.in_ok-walk.ensures.one, c.loop-j.invariant.few);
      extent = rw (shape_is, c.in_ok-walk.ensures.extent, extent, c.loop-j.invariant.extent) refl;
      place = λ place.
          rw (shape_is, strides_are)
          (c.in_ok-walk.ensures.place place
          ∙ permuted_step m (drop j shape) (f (j - 1)) (drop j all_strides) w (walked (maps_of before) place) (extent_of (maps_of before)) place extent c.loop-j.invariant.extent steps
          (c.loop-j.invariant.place place));
    }
