use Rattle.std.proofs.Common.{◌≡◌, ◌+◌, ◌-◌, ◌*◌, take, arith}
use Rattle.std.proofs.Math.Nat.{mul-pos}
use Rattle.apl_array.specs.Shape.{count_of}
use Rattle.apl_struct.proofs.Elements.{AxisFacts, axis_facts}
use Rattle.apl_struct.proofs.Joints.{parts_of_line}
use Rattle.apl_struct.proofs.joining.seam_along.Goals as goal

facts : (c : goal.After-axis) → let n = c.axis.result in let inner = c.inner-inner.result in
    AxisFacts (count_of (take c.args.k c.args.shape.now)) n inner c.count.result × (c.args.left * inner + (n - c.args.left) * inner ≡ n * inner)
facts c =
    let shape = c.args.shape.now in
    let k = c.args.k in
    let n = c.axis.result in
    let inner = c.inner-inner.result in
    let count : c.count.result ≡ count_of (take k shape) * n * inner =
    rw (c.inner-inner.ensures.inner, c.axis.ensures.length, c.count.ensures.count) (c.replaced_index_has_place.ensures.count shape k c.requires.axis) in
    (axis_facts (count_of (take k shape)) n inner c.count.result count (omega arith), parts_of_line c.args.left (n - c.args.left) n inner (omega (arith, c.requires.part, c.axis.ensures.length)))

pub overflow_mul-result : goal.overflow_mul-result
overflow_mul-result c = omega (arith, (facts c).0.line_most, (facts c).1, c.count.ensures.lawful.count, c.count.ensures.count)

pub overflow_mul-result-2 : goal.overflow_mul-result-2
overflow_mul-result-2 c = omega (arith, (facts c).0.line_most, (facts c).1, c.count.ensures.lawful.count, c.count.ensures.count)

pub invariant_of-result-2 : goal.invariant_of-result-2
invariant_of-result-2 c =
    let known = facts c in
    record {
      some = omega (arith, known.1, mul-pos known.0.length_some known.0.inner_some);
      most = omega (arith, known.0.line_most, known.1, c.count.ensures.lawful.count, c.count.ensures.count);
    }
