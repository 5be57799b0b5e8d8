use Rattle.std.proofs.Common.{◌≡◌, ◌<◌, ℕ, true, List, length, slice_index, ap, sym, subst, ◌∙◌, arith, rules}
use Rattle.std.specs.Prelude.{◌⊎◌, remove}
use Rattle.apl_array.specs.declared.array.Kind.TheVariants.{Number}
use Rattle.apl_array.specs.Axes.{has_axis, axis_of}
use Rattle.apl_array.specs.Shape.{count_of, index_at, is_shape}
use Rattle.apl_answer.specs.Arguments.{rank_of}
use Rattle.apl_answer.specs.Pointwise.{answer_of, IsAnswerOf}
use Rattle.apl_reduce.specs.Folding.{reduction}
use Rattle.apl_reduce.specs.Reducing.{items_along}
use Rattle.apl_reduce.proofs.ReducedRows.{row_answer, scalar_answer, scalar_item, axis_within, kind_of_one, kind_of_others, no_items, count_without_one, untested_item}
use Rattle.apl_reduce.proofs.reducing.reduce.Goals as goal

pub returns-then-rank-eq0 : goal.returns-then-rank-eq0
returns-then-rank-eq0 g c =
    let b = c.args.b.now in
    let k = axis_of c.args.axis (rank_of b) in
    let rank : c.rank.result ≡ rank_of b = c.rank.ensures.rank ∙ ap length c.shape.ensures.shape in
    let has : has_axis c.args.axis (rank_of b) ≡ true = ap (has_axis c.args.axis) (sym rank) ∙ c.in-Some.ensures.0 in
    let none : length b.shape ≡ 0 = search rules in
    scalar_answer c.args.f b c.args.axis c.array_copy.result none has
    (c.array_copy.ensures.by_place (λ index. reduction c.args.f (items_along b k index)) (λ place inside.
    scalar_item c.args.f b k (index_at b.shape place) place none inside))

pub returns-in-0 : goal.returns-in-0
returns-in-0 g c =
    let b = c.args.b.now in
    let k = c.in-Some.k in
    let rank : c.rank.result ≡ rank_of b = c.rank.ensures.rank ∙ ap length c.shape.ensures.shape in
    let rank_2 : c.rank-2.result ≡ rank_of b = c.rank-2.ensures.rank ∙ ap length c.shape-2.ensures.shape in
    let axis : k < rank_of b = axis_within k (rank_of b) (subst (λ n. (k < n) ⊎ (n ≡ 0)) rank c.in-Some.ensures.2) (λ none. c.if-rank-eq0.false (rank_2 ∙ none)) in
    let lengths : c.as_slice.result.now ≡ remove b.shape k = search rules in
    let shape : c.in_ok-shape.shape ≡ remove b.shape k = c.in_ok-shape.ensures.value ∙ lengths in
    let has : has_axis c.args.axis (rank_of b) ≡ true = ap (has_axis c.args.axis) (sym rank) ∙ c.in-Some.ensures.0 in
    let is : k ≡ axis_of c.args.axis (rank_of b) = c.in-Some.ensures.1 ∙ ap (axis_of c.args.axis) rank in
    let lawful : is_shape (remove b.shape k) ≡ true = ap is_shape (sym lengths) ∙ c.in_ok-shape.ensures.test in
    let n : c.axis.result ≡ slice_index b.shape k = c.axis.ensures.length ∙ ap (λ s. slice_index s k) c.shape-4.ensures.shape in
    let none : slice_index b.shape k ≡ 0 = sym n ∙ search rules in
    let outcome = λ (index : List ℕ). reduction c.args.f (items_along b k index) in
    let kind = kind_of_others b k (λ one. omega (arith, one, none)) axis in
    row_answer c.args.f b c.args.axis k c.constant_array.result has is lawful
    (rw kind (subst (λ s. IsAnswerOf (answer_of s outcome Number) c.constant_array.result) shape
    (c.constant_array.ensures outcome (λ place inside. c.identity_or_fault.ensures ∙ sym (no_items c.args.f b k (index_at c.in_ok-shape.shape place) axis none)))))

pub array_of_elements-requires-after_bounds : goal.array_of_elements-requires-after_bounds
array_of_elements-requires-after_bounds g c κs within =
    let b = c.args.b.now in
    let k = c.in-Some.k in
    let rank : c.rank.result ≡ rank_of b = c.rank.ensures.rank ∙ ap length c.shape.ensures.shape in
    let rank_2 : c.rank-2.result ≡ rank_of b = c.rank-2.ensures.rank ∙ ap length c.shape-2.ensures.shape in
    let axis : k < rank_of b = axis_within k (rank_of b) (subst (λ n. (k < n) ⊎ (n ≡ 0)) rank c.in-Some.ensures.2) (λ none. c.if-rank-eq0.false (rank_2 ∙ none)) in
    let lengths : c.as_slice.result.now ≡ remove b.shape k = search rules in
    let shape : c.in_ok-shape.shape ≡ remove b.shape k = c.in_ok-shape.ensures.value ∙ lengths in
    let n : c.axis.result ≡ slice_index b.shape k = c.axis.ensures.length ∙ ap (λ s. slice_index s k) c.shape-4.ensures.shape in
    let one : slice_index b.shape k ≡ 1 = sym n ∙ c.in-1.is in
    let same : count_of c.in_ok-shape.shape ≡ count_of b.shape =
    ap count_of shape ∙ count_without_one c.inserted_index_has_place.ensures.count c.replaced_index_has_place.ensures.count b.shape k axis one in
    omega (arith, same)

pub returns-in-1 : goal.returns-in-1
returns-in-1 g c =
    let b = c.args.b.now in
    let k = c.in-Some.k in
    let rank : c.rank.result ≡ rank_of b = c.rank.ensures.rank ∙ ap length c.shape.ensures.shape in
    let rank_2 : c.rank-2.result ≡ rank_of b = c.rank-2.ensures.rank ∙ ap length c.shape-2.ensures.shape in
    let axis : k < rank_of b = axis_within k (rank_of b) (subst (λ n. (k < n) ⊎ (n ≡ 0)) rank c.in-Some.ensures.2) (λ none. c.if-rank-eq0.false (rank_2 ∙ none)) in
    let lengths : c.as_slice.result.now ≡ remove b.shape k = search rules in
    let shape : c.in_ok-shape.shape ≡ remove b.shape k = c.in_ok-shape.ensures.value ∙ lengths in
    let has : has_axis c.args.axis (rank_of b) ≡ true = ap (has_axis c.args.axis) (sym rank) ∙ c.in-Some.ensures.0 in
    let is : k ≡ axis_of c.args.axis (rank_of b) = c.in-Some.ensures.1 ∙ ap (axis_of c.args.axis) rank in
    let lawful : is_shape (remove b.shape k) ≡ true = ap is_shape (sym lengths) ∙ c.in_ok-shape.ensures.test in
    let n : c.axis.result ≡ slice_index b.shape k = c.axis.ensures.length ∙ ap (λ s. slice_index s k) c.shape-4.ensures.shape in
    let one : slice_index b.shape k ≡ 1 = sym n ∙ c.in-1.is in
    let outcome = λ (index : List ℕ). reduction c.args.f (items_along b k index) in
    row_answer c.args.f b c.args.axis k c.array_of_elements.result has is lawful
    (rw (kind_of_one b k one axis) (subst (λ s. IsAnswerOf (answer_of s outcome b.kind) c.array_of_elements.result) shape
    (c.array_of_elements.ensures outcome (λ place inside.
    rw shape (untested_item c.inserted_index_has_place.ensures.place c.args.f b k place axis one (rw shape at inside))))))

pub returns : goal.returns
returns g c =
    let b = c.args.b.now in
    let k = c.in-Some.k in
    let rank : c.rank.result ≡ rank_of b = c.rank.ensures.rank ∙ ap length c.shape.ensures.shape in
    let rank_2 : c.rank-2.result ≡ rank_of b = c.rank-2.ensures.rank ∙ ap length c.shape-2.ensures.shape in
    let axis : k < rank_of b = axis_within k (rank_of b) (subst (λ n. (k < n) ⊎ (n ≡ 0)) rank c.in-Some.ensures.2) (λ none. c.if-rank-eq0.false (rank_2 ∙ none)) in
    let lengths : c.as_slice.result.now ≡ remove b.shape k = search rules in
    let shape : c.in_ok-shape.shape ≡ remove b.shape k = c.in_ok-shape.ensures.value ∙ lengths in
    let has : has_axis c.args.axis (rank_of b) ≡ true = ap (has_axis c.args.axis) (sym rank) ∙ c.in-Some.ensures.0 in
    let is : k ≡ axis_of c.args.axis (rank_of b) = c.in-Some.ensures.1 ∙ ap (axis_of c.args.axis) rank in
    let lawful : is_shape (remove b.shape k) ≡ true = ap is_shape (sym lengths) ∙ c.in_ok-shape.ensures.test in
    let n : c.axis.result ≡ slice_index b.shape k = c.axis.ensures.length ∙ ap (λ s. slice_index s k) c.shape-4.ensures.shape in
    let more : slice_index b.shape k ≡ 1 → ⊥ = search rules in
    let outcome = λ (index : List ℕ). reduction c.args.f (items_along b k index) in
    row_answer c.args.f b c.args.axis k c.fold.result has is lawful
    (rw (kind_of_others b k more axis) (subst (λ s. IsAnswerOf (answer_of s outcome Number) c.fold.result) shape c.fold.ensures))
