use Rattle.std.proofs.Common.{◌≡◌, ℕ, Err, true, false, if◌then◌else◌, length, replicate, slice_index, slice_index_or, pos, to_z, of_z, w64, ap, sym, subst, ◌∙◌, eq-eqb, arith, rules}
use Rattle.std.specs.Prelude.{◌||◌, ◌==◌}
use Rattle.std.specs.List.{list_all}
use Rattle.std.proofs.lemmas.List.{length-map}
use Rattle.apl_array.specs.declared.axis.Axis.{Axis}
use Rattle.apl_array.specs.Array.{ArrayValue}
use Rattle.apl_array.specs.Axes.{place_number, has_axis, axis_of}
use Rattle.apl_array.specs.Shape.{count_of}
use Rattle.apl_answer.specs.declared.fault.OpFault.TheVariants.{Domain}
use Rattle.apl_answer.specs.Arguments.{rank_of, size_of, has_one_element, is_list, is_natural, number_of, numbers_of, only_element}
use Rattle.apl_answer.specs.Pointwise.{IsAnswerOf}
use Rattle.apl_struct.specs.Compressing.{as_vector}
use Rattle.apl_struct.specs.Replicating.{replicated}
use Rattle.apl_struct.proofs.Counts.{single_natural}
use Rattle.apl_struct.proofs.Rotations.{number_in}
use Rattle.apl_struct.proofs.compressing.compress.Given.{Over}
use Rattle.apl_struct.proofs.compressing.compress.Goals as goal
use Rattle.apl_struct.proofs.compressing.compress.Goals.{After-vector_length-length}

record Judged (a b : ArrayValue) (axis : Axis) (k long : ℕ) : Type 0 where
  pub has : has_axis axis (rank_of (as_vector (size_of a) b)) ≡ true
  pub k_is : k ≡ axis_of axis (rank_of (as_vector (size_of a) b))
  pub list : is_list a ≡ true
  pub length_is : long ≡ slice_index (as_vector (size_of a) b).shape (axis_of axis (rank_of (as_vector (size_of a) b)))

judged : (g : Over) (c : After-vector_length-length g) → Judged c.args.a.now c.args.b.now c.args.axis c.in-Some.k c.vector_length-length.result
judged g c =
    let a = c.args.a.now in
    let n = size_of a in
    let vector = as_vector n c.args.b.now in
    let rank : c.vector_rank.result ≡ rank_of vector = c.vector_rank.ensures.vector n in
    let at = rw rank at c.in-Some.ensures in
    let count_is : c.count-count.result ≡ n = c.count-count.ensures.count ∙ ap count_of c.shape-2.ensures.shape in
    record {
      has = at.0;
      k_is = at.1;
      list = search rules;
      length_is = rw (count_is, at.1) at c.vector_length-length.ensures.length;
    }

pub returns : goal.returns
returns g c =
    let a = c.args.a.now in
    let b = c.args.b.now in
    let n = size_of a in
    let vector = as_vector n b in
    let k = axis_of c.args.axis (rank_of vector) in
    let known = judged g (goal.at.returns g c).After-vector_length-length in
    let several : n ≡ 1 → ⊥ = search rules in
    let more : has_one_element a.shape ≡ false = grind (arith, several) in
    let fits : c.count-count.result ≡ c.vector_length-length.result = omega arith in
    let served : (has_one_element a.shape || (n == slice_index vector.shape k)) ≡ true = rw more (eq-eqb n (slice_index vector.shape k)
    (sym (c.count-count.ensures.count ∙ ap count_of c.shape-2.ensures.shape) ∙ fits ∙ known.length_is)) in
    rw (known.has, known.list, served, more) (rw known.k_is at c.replicate_each.ensures)

pub returns-then-count-eq1 : goal.returns-then-count-eq1
returns-then-count-eq1 g c =
    let a = c.args.a.now in
    let b = c.args.b.now in
    let n = size_of a in
    let vector = as_vector n b in
    let k = axis_of c.args.axis (rank_of vector) in
    let known = judged g (goal.at.returns-then-count-eq1 g c).After-vector_length-length in
    let own = c.as_slice.result.now in
    let numbers : numbers_of a ≡ own = c.in_ok-counts.ensures.numbers.1 ∙ sym c.as_slice.ensures in
    let many : length own ≡ n = sym (ap length numbers) ∙ length-map a.ravel number_of ∙ c.shape.ensures.lawful.len in
    let count : n ≡ 1 = search rules in
    let one : has_one_element a.shape ≡ true = grind (arith, count) in
    let served : (has_one_element a.shape || (n == slice_index vector.shape k)) ≡ true = ap (λ p. p || (n == slice_index vector.shape k)) one in
    let z = slice_index_or own 0 (pos 0) in
    let turned : to_z w64 (of_z w64 z) ≡ z = search rules in
    let number_is : to_z w64 (of_z w64 z) ≡ number_of (only_element a) = turned ∙ sym (number_in a.ravel 0 ∙ ap (λ ns. slice_index_or ns 0 (pos 0)) numbers) in
    let natural : list_all is_natural (numbers_of a) ≡ is_natural (number_of (only_element a)) = ap (list_all is_natural) numbers ∙ single_natural own (many ∙ count) ∙ ap is_natural (sym turned ∙ number_is) in
    let P : ℕ → Type 0 = λ m. IsAnswerOf
    (if is_natural (number_of (only_element a)) then replicated (as_vector m b) k (replicate (slice_index vector.shape k) (place_number (number_of (only_element a)))) else Err Domain)
    c.replicate_all.result in
    rw (known.has, known.list, served, c.in_ok-counts.ensures.numbers.0, natural, one) (subst P (sym count) (rw (number_is, known.length_is, known.k_is) at c.replicate_all.ensures))
