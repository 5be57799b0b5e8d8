use Rattle.std.proofs.Common.{◌≡◌, ℕ, ◌+◌, ◌-◌, ◌<◌, length, drop, slice_index, refl, ap, ◌∙◌, arith}
use Rattle.std.specs.Prelude.{slice_set}
use Rattle.std.proofs.lemmas.List.{drop-set-lt}
use Rattle.apl_array.specs.Shape.{count_of, index_at}
use Rattle.apl_array.specs.Array.{ArrayValue}
use Rattle.apl_struct.specs.Joined.{joined_at}
use Rattle.apl_struct.specs.Joining.{joined_rank, slices_shape, catenated_element}
use Rattle.apl_struct.proofs.Joints.{joined_element, joined_axis}
use Rattle.apl_struct.proofs.joining.join_along.Given.{Over}
use Rattle.apl_struct.proofs.joining.join_along.Goals as goal
use Rattle.apl_struct.proofs.joining.join_along.Goals.{After-kind-2, After-seam_along-seam}

abbrev right : (a b : ArrayValue) (k : ℕ) → ℕ
right a b k = slice_index (slices_shape (joined_rank a b) k b a) k

axis : (g : Over) (c : After-kind-2 g) → (c.args.k < length c.args.shape) × (c.args.left + right c.args.a.now c.args.b.now c.args.k ≡ slice_index c.args.shape c.args.k)
axis g c = joined_axis c.args.a.now c.args.b.now c.args.k c.args.left _ c.args.shape c.requires.axis c.requires.shape

pub seam_along-seam-requires-clause-axis : goal.seam_along-seam-requires-clause-axis
seam_along-seam-requires-clause-axis g c = (axis g (goal.at.seam_along-seam-requires-clause-axis g c).After-kind-2).0

pub seam_along-seam-requires-clause-part : goal.seam_along-seam-requires-clause-part
seam_along-seam-requires-clause-part g c = omega (arith, (axis g (goal.at.seam_along-seam-requires-clause-part g c).After-kind-2).1)

element : (g : Over) (c : After-seam_along-seam g) (place : ℕ) → place < count_of c.args.shape
    → joined_at c.args.a.now c.args.b.now c.seam_along-seam.result.left c.seam_along-seam.result.right place
    ≡ catenated_element (joined_rank c.args.a.now c.args.b.now) c.args.k c.args.left c.args.a.now c.args.b.now (index_at c.args.shape place)
element g c place inside =
    let law = c.places_match_index_lists.ensures in
    let line = c.changed_axis_has_place.ensures in
    let seam = c.seam_along-seam.ensures in
    let a = c.args.a.now in
    let b = c.args.b.now in
    let k = c.args.k in
    let own = slices_shape (joined_rank a b) k a b in
    let n = slice_index own k in
    let m = right a b k in
    let some : 0 < count_of c.args.shape = omega (arith, inside) in
    let rest : slice_index c.args.shape k - c.args.left ≡ m = omega (arith, (joined_axis a b k c.args.left m c.args.shape c.requires.axis c.requires.shape).1) in
    let shape : c.args.shape ≡ slice_set own k (n + m) = c.requires.shape ∙ ap (λ l. slice_set own k (l + m)) c.requires.left in
    let inner : count_of (drop (k + 1) (slice_set own k (n + m))) ≡ count_of (drop (k + 1) own) = ap count_of (drop-set-lt (k + 1) own k (n + m) (omega arith)) in
    rw (seam.left some, seam.right some, rest, c.requires.left, shape, inner)
    (joined_element law.below law.lawful line.count line.index line.lawful line.place a b (joined_rank a b) k place c.kind.ensures.lawful c.kind-2.ensures.lawful refl c.requires.ranks
    c.requires.axis c.requires.others (rw shape at inside))

pub returns-in-Number : goal.returns-in-Number
returns-in-Number g c = c.join_numbers.ensures _ (element g (goal.at.returns-in-Number g c).After-seam_along-seam)

pub returns-in-Character : goal.returns-in-Character
returns-in-Character g c = c.join_elements.ensures _ (element g (goal.at.returns-in-Character g c).After-seam_along-seam)
