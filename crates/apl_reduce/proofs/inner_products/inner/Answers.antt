use Rattle.std.proofs.Common.{◌≡◌, true, ℕ, List, ◌++◌, subst, rules}
use Rattle.std.specs.Prelude.{IfOk, IfErr}
use Rattle.apl_array.specs.Shape.{is_shape, index_at}
use Rattle.apl_pool.specs.Pool.{AreValues, IsStopOf}
use Rattle.apl_answer.specs.Pointwise.{answer_of, IsAnswerOf}
use Rattle.apl_reduce.specs.Layouts.{inner_number}
use Rattle.apl_reduce.specs.Products.{inner_row, is_common, common_length, left_shape, right_shape}
use Rattle.apl_reduce.proofs.InnerItems.{inner_outcome}
use Rattle.apl_reduce.proofs.Passing.{answered}
use Rattle.apl_reduce.proofs.inner_products.inner.Goals as goal

pub returns : goal.returns
returns g c =
    let a = c.args.a.now in
    let b = c.args.b.now in
    let row = inner_row c.args.f c.args.g a b in
    let shape = c.in_ok-shape.shape in
    let layout = c.layout_of-layout.result in
    let number = inner_number layout a.ravel b.ravel c.args.f c.args.g in
    let result = c.fill_inner_elements.result in
    let common : is_common a b ≡ true = c.in-Some.ensures.0 in
    let shapes : shape ≡ left_shape a ++ right_shape b = search rules in
    let lawful : is_shape (left_shape a ++ right_shape b) ≡ true = search rules in
    let long : layout.items ≡ common_length a b = search rules in
    let Values : ℕ → Type 0 = λ n. IfOk result (λ v. AreValues number n v.items) in
    let Stops : ℕ → Type 0 = λ n. IfErr result (IsStopOf number n) in
    let P : List ℕ → Type 0 = λ s. IsAnswerOf (answer_of s row.outcome row.kind) c.array_from_fill.result in
    answered row.checks (answer_of row.shape row.outcome row.kind) c.array_from_fill.result (common, (lawful, tt))
    (subst P shapes
    (c.array_from_fill.ensures number row.outcome
    (λ place inside.
    inner_outcome layout a b c.args.f c.args.g (index_at shape place) place long (λ k. c.layout_of-layout.ensures.left place k inside) (λ k. c.layout_of-layout.ensures.right place k inside))
    (subst Values c.layout_of-layout.ensures.count c.fill_inner_elements.ensures.values) (subst Stops c.layout_of-layout.ensures.count c.fill_inner_elements.ensures.stop)))
