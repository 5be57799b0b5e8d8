use Rattle.std.proofs.Common.{◌≡◌, length, sym, ap, ◌∙◌, subst}
use Rattle.std.proofs.lemmas.Bool.{eq-eqb}
use Rattle.std.proofs.lemmas.List.{nil_from_length, take-replicate}
use Rattle.std.proofs.lemmas.Result.{IfOk-weaker}
use Rattle.apl_array.specs.Shape.{IsShape, most_axes, count_of}
use Rattle.apl_struct.proofs.Taken.{count_ones, IsShape-ones}
use Rattle.apl_struct.proofs.taking.shape_with_axes.Goals as goal

pub lawful_shape-requires : goal.lawful_shape-requires
lawful_shape-requires c = subst IsShape (sym (take-replicate c.args.rank most_axes 1 c.requires)) (IsShape-ones c.args.rank c.requires)

pub returns : goal.returns
returns c =
    let shape = c.args.b.now.shape in
    let rank = c.args.rank in
    let none : length shape ≡ 0 = ap length (sym c.shape.ensures.shape) ∙ sym c.rank.ensures.rank ∙ c.if-rank-ne0.false in
    let ones = take-replicate rank most_axes 1 c.requires in
    record {
      shape = IfOk-weaker c.lawful_shape.result _ _ (λ s is. rw (eq-eqb (length shape) 0 none) (is ∙ ones)) c.lawful_shape.ensures.shape;
      count = IfOk-weaker c.lawful_shape.result _ _ (λ s is. ap count_of (is ∙ ones) ∙ count_ones rank ∙ sym (ap count_of (nil_from_length shape none))) c.lawful_shape.ensures.shape;
    }
