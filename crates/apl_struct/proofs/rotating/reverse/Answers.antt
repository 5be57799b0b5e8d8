use Rattle.std.proofs.Common.{◌≡◌, Ok, ◌<◌, length, slice_index, refl, ap, ◌∙◌, rules}
use Rattle.apl_array.specs.Axes.{axis_of}
use Rattle.apl_array.specs.Shape.{index_at}
use Rattle.apl_answer.specs.Arguments.{rank_of}
use Rattle.apl_struct.specs.declared.along.Taking.TheVariants.{Reversed}
use Rattle.apl_struct.specs.Along.{taking_index}
use Rattle.apl_struct.specs.Gathering.{element_or_fill, along_axis, along_axis_or_none}
use Rattle.apl_struct.specs.Rearranging.{reversed_index}
use Rattle.apl_struct.proofs.Elements.{scalar_element}
use Rattle.apl_struct.proofs.Takings.{own_array}
use Rattle.apl_struct.proofs.rotating.reverse.Goals as goal

pub returns-then-rank-eq0 : goal.returns-then-rank-eq0
returns-then-rank-eq0 g c =
    let b = c.args.b.now in
    let k = axis_of c.args.axis (rank_of b) in
    let rank : c.rank.result ≡ rank_of b = c.rank.ensures.rank ∙ ap length c.shape.ensures.shape in
    let none : length b.shape ≡ 0 = search rules in
    rw (rw rank at c.in-Some.ensures).0 (c.array_copy.ensures.by_place _ (λ place inside. ap Ok (scalar_element b place (along_axis k (reversed_index (slice_index b.shape k)) (index_at b.shape place)) none inside)))

pub returns : goal.returns
returns g c =
    let b = c.args.b.now in
    let rank : c.rank.result ≡ rank_of b = c.rank.ensures.rank ∙ ap length c.shape.ensures.shape in
    let at = rw rank at c.in-Some.ensures in
    let k = c.in-Some.k in
    let n = c.axis-length.result in
    let axis : k < length b.shape = search rules in
    let n_is : n ≡ slice_index b.shape k = search rules in
    let made = own_array c.shape_is_decided.ensures n k b (λ v index. element_or_fill v (along_axis_or_none k (taking_index n Reversed) index)) c.gather_along.result axis n_is
    c.shape.ensures.lawful.shape c.gather_along.ensures in
    rw at.0 (rw (n_is, at.1) at (made _ (λ index lawful. refl)))
