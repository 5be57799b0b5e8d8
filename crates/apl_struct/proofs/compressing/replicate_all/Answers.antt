use Rattle.std.proofs.Common.{◌≡◌, ◌*◌, ◌/◌, ◌<◌, nat_abs, to_z, of_z, to_z-of_z, w64, length, replicate, slice_index, refl, ap, sym, subst, ◌∙◌, ℕ, arith}
use Rattle.std.specs.Prelude.{slice_set, sum}
use Rattle.std.proofs.lemmas.List.{length-set, get_or-set_same}
use Rattle.apl_array.specs.Array.{ArrayValue, element_at}
use Rattle.apl_array.specs.Shape.{most_elements}
use Rattle.apl_array.specs.Axes.{place_number}
use Rattle.apl_struct.specs.Compressing.{as_vector}
use Rattle.apl_struct.specs.Shaped.{IsArrayOrLimit}
use Rattle.apl_struct.proofs.Takings.{axis_of_vector, vector_at}
use Rattle.apl_struct.proofs.Counts.{repeated_same, sum_refused, is_count}
use Rattle.apl_struct.proofs.compressing.replicate_all.Goals as goal

pub returns-then-extent-gt-MOST_ELEMENTS : goal.returns-then-extent-gt-MOST_ELEMENTS
returns-then-extent-gt-MOST_ELEMENTS g c =
    let counts = replicate c.args.length (place_number c.args.count) in
    let count = is_count c.args.length c.args.count (to_z-of_z c.ranges.count) c.if-count-lt0.false in
    let past : most_elements < sum counts = omega (arith, c.saturating_mul-extent.ensures, c.if-extent-gt-MOST_ELEMENTS.true, count.sum_is) in
    rw count.natural (sum_refused (as_vector 1 c.args.b.now) c.args.k counts _ (axis_of_vector 1 c.args.k c.args.b.now c.requires.axis) past refl)

pub gather_along-requires-clause-length : goal.gather_along-requires-clause-length
gather_along-requires-clause-length g c = λ lifetimes outlive.
    c.requires.length ∙ ap (λ v. slice_index v.shape c.args.k) (sym (vector_at c.args.b.now 1 c.args.k c.args.length c.requires.axis c.requires.length))

pub gather_along-requires-clause-extent : goal.gather_along-requires-clause-extent
gather_along-requires-clause-extent g c = λ lifetimes outlive. omega (arith, c.saturating_mul-extent.ensures)

pub returns : goal.returns
returns g c =
    let b = c.args.b.now in
    let k = c.args.k in
    let n = c.args.length in
    let z = c.args.count in
    let v = place_number z in
    let counts = replicate n v in
    let vector = as_vector 1 b in
    let shape = slice_set vector.shape k (sum counts) in
    let count = is_count n z (to_z-of_z c.ranges.count) c.if-count-lt0.false in
    let extent_is : c.saturating_mul-extent.result ≡ sum counts = omega (arith, c.saturating_mul-extent.ensures, count.sum_is) in
    let axis : k < length vector.shape = axis_of_vector 1 k b c.requires.axis in
    let Taken : ArrayValue → ℕ → Type 0 = λ a extent. IsArrayOrLimit (slice_set a.shape k extent) b.kind
    (λ index. element_at a (slice_set index k (slice_index index k / nat_abs (to_z w64 (of_z w64 z))))) c.gather_along.result in
    let made = subst (Taken vector) extent_is (subst (λ a. Taken a c.saturating_mul-extent.result) (vector_at b 1 k n c.requires.axis c.requires.length) c.gather_along.ensures) in
    rw count.natural
    (made _ (λ index inside.
    let i = slice_index index k in
    let wide : k < length shape = omega (arith, axis, length-set vector.shape k (sum counts)) in
    let below : i < n * v = omega (arith, inside.below k wide, get_or-set_same vector.shape k (sum counts) 0 axis, count.sum_is, ap (λ m. n * m) count.cast) in
    ap (λ t. element_at vector (slice_set index k (i / t))) count.cast
    ∙ ap (λ j. element_at vector (slice_set index k j)) (sym (repeated_same n v i below))))
