use Rattle.std.proofs.Common.{◌≡◌, pos, ◌+◌, ◌-◌, ◌∷◌, drop, get_or, to_z, of_z, w64, to_z-of_z, slice_index, refl, ap, ◌∙◌, arith}
use Rattle.std.specs.Prelude.{nat_abs}
use Rattle.apl_array.specs.Shape.{count_of}
use Rattle.apl_walk.specs.Maps.{extent_of, walked}
use Rattle.apl_walk.specs.Walks.{maps_of}
use Rattle.apl_struct.proofs.Taken.{from_axis, magnitude_before, axis_before, taken_step}
use Rattle.apl_struct.proofs.taking.taken_walk.Goals as goal

pub taken_window-window-requires : goal.taken_window-window-requires
taken_window-window-requires c =
    let k = c.loop-k.k in
    let m = get_or c.args.numbers.now (k - 1) (pos 0) in
    let read : to_z w64 (of_z w64 m) ≡ m = grind (arith, to_z-of_z) in
    let back : k - 1 + 1 ≡ k = omega arith in
    let number = magnitude_before c.args.numbers.now k _ c.loop-k-test.true c.loop-k.auto.k c.requires.some c.requires.lawful.count in
    let axis = axis_before c.args.argument.now k _ c.loop-k-test.true (omega (arith, c.loop-k.auto.k, c.requires.len)) c.requires.argument_some c.axis.ensures.lawful.count in
    record {
      some = rw read number.some;
      most = rw read number.less;
      length = rw c.axis.ensures.length axis.less;
      near = rw (c.axis.ensures.length, c.inner.ensures.inner, back) axis.both;
    }

pub with-requires-clause-extent : goal.with-requires-clause-extent
with-requires-clause-extent c =
    let m = get_or c.args.numbers.now (c.loop-k.k - 1) (pos 0) in
    let read : to_z w64 (of_z w64 m) ≡ m = grind (arith, to_z-of_z) in
    rw (c.taken_window-window.ensures.extent, read, c.loop-k.invariant.extent)
    (magnitude_before c.args.numbers.now c.loop-k.k _ c.loop-k-test.true c.loop-k.auto.k c.requires.some c.requires.lawful.count).both

pub loop-k-preserved : goal.loop-k-preserved
loop-k-preserved c =
    let k = c.loop-k.k in
    let argument = c.args.argument.now in
    let numbers = c.args.numbers.now in
    let m = get_or numbers (k - 1) (pos 0) in
    let n = slice_index argument (k - 1) in
    let w = c.taken_window-window.result in
    let before = c.loop-k.walk in
    let read : to_z w64 (of_z w64 m) ≡ m = grind (arith, to_z-of_z) in
    let back : k - 1 + 1 ≡ k = omega arith in
    let inner : c.inner.result ≡ count_of (drop k argument) = c.inner.ensures.inner ∙ ap (λ j. count_of (drop j argument)) back in
    let numbers_are : drop (k - 1) numbers ≡ m ∷ drop k numbers = from_axis numbers k (pos 0) c.loop-k-test.true c.loop-k.auto.k in
    let argument_is : drop (k - 1) argument ≡ n ∷ drop k argument = from_axis argument k 0 c.loop-k-test.true (omega (arith, c.loop-k.auto.k, c.requires.len)) in
    let extent : w.extent ≡ nat_abs m = c.taken_window-window.ensures.extent ∙ ap nat_abs read in
    let steps = rw (read, c.axis.ensures.length, inner) at c.taken_window-window.ensures.step in
    record {
      few = omega (arith, c.in_ok-walk.ensures.one, c.loop-k.invariant.few);
      extent = rw (numbers_are, c.in_ok-walk.ensures.extent, extent, c.loop-k.invariant.extent) refl;
      place = λ place.
          rw (numbers_are, argument_is)
          (c.in_ok-walk.ensures.place place
          ∙ taken_step m (drop k numbers) n (drop k argument) w (walked (maps_of before) place) (extent_of (maps_of before)) place extent c.loop-k.invariant.extent steps (c.loop-k.invariant.place place));
    }
