use Rattle.std.proofs.Common.{◌≡◌, ◌<◌, ◌+◌, slice_index, slice_set, w64, to_z, of_z, ap, sym, ◌∙◌, arith, rules}
use Rattle.apl_array.specs.Array.{element_at}
use Rattle.apl_struct.specs.declared.along.Taking.TheVariants.{Rotated}
use Rattle.apl_struct.specs.Along.{taking_index}
use Rattle.apl_struct.specs.Gathering.{element_or_fill, along_axis_or_none}
use Rattle.apl_struct.specs.Rearranging.{rotated_index}
use Rattle.apl_walk.specs.Steps.{wrapped}
use Rattle.apl_struct.proofs.Takings.{own_array}
use Rattle.apl_struct.proofs.rotating.rotate_all.Goals as goal

pub returns : goal.returns
returns g c = λ element told.
    let b = c.args.b.now in
    let k = c.args.k in
    let z = c.args.rotation in
    let n = c.axis-length.result in
    let by = c.rotation_within-by.result in
    let same : to_z w64 (of_z w64 z) ≡ z = search rules in
    let n_is : n ≡ slice_index b.shape k = c.axis-length.ensures.length ∙ ap (λ s. slice_index s k) c.shape.ensures.shape in
    own_array c.shape_is_decided.ensures n k b (λ v index. element_or_fill v (along_axis_or_none k (taking_index n (Rotated by)) index)) c.gather_along.result c.requires n_is
    c.shape.ensures.lawful.shape c.gather_along.ensures element (λ index lawful.
    let i = slice_index index k in
    let inside : i < n = omega (arith, n_is, lawful.below k c.requires) in
    let rotated : wrapped n (i + by) ≡ rotated_index z (slice_index b.shape k) i =
    sym (c.rotation_within-by.ensures.each i inside) ∙ ap (λ y. rotated_index y n i) same ∙ ap (λ m. rotated_index z m i) n_is in
    ap (λ j. element_at b (slice_set index k j)) rotated ∙ told index lawful)
