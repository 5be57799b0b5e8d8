use Rattle.std.proofs.Common.{◌≡◌, ◌<◌, ℕ, sym, ap, ◌∙◌}
use Rattle.std.proofs.lemmas.Result.{IfOk-weaker, IfErr-weaker}
use Rattle.apl_array.specs.declared.array.Elem.TheVariants.{Int}
use Rattle.apl_array.specs.Array.{kind_of}
use Rattle.apl_pool.specs.Pool.{AreValues, IsStopOf}
use Rattle.apl_reduce.specs.Items.{as_number}
use Rattle.apl_reduce.specs.Layouts.{inner_item, inner_number, left_place, right_place}
use Rattle.apl_reduce.proofs.Mixed.{mixed}
use Rattle.apl_reduce.proofs.Reordered.{judged_same, values_same, stop_same}
use Rattle.apl_reduce.proofs.inner_products.fill_mixed_items.Goals as goal

pub returns : goal.returns
returns g c =
    let a = c.args.a.now in
    let b = c.args.b.now in
    let layout = c.args.layout.now in
    let item = c.dyadic_result.result in
    let same : (place : ℕ) → place < layout.count → c.reduced.result ≡ inner_number layout a.ravel b.ravel c.args.f c.args.g place = λ place inside.
    c.reduced.ensures ∙ ap as_number (judged_same (λ k. item) (inner_item layout a.ravel b.ravel c.args.g place) c.args.f layout.items (λ k below.
    let left = c.requires.left.kinds (left_place layout place k) (Int _) (c.requires.within.left_item place k inside below) in
    let right = c.requires.right.kinds (right_place layout place k) (Int _) (c.requires.within.right_item place k inside below) in
    c.dyadic_result.ensures ∙ mixed c.args.g _ _ (λ e. c.requires.kinds (sym left ∙ e ∙ right)))) in
    let there = λ (place : ℕ). c.reduced.result in
    let here = inner_number layout a.ravel b.ravel c.args.f c.args.g in
    record {
      values = IfOk-weaker c.fill_uniform.result (λ v. AreValues there layout.count v.items) (λ v. AreValues here layout.count v.items) (λ v values. values_same there here layout.count same v.items values) c.fill_uniform.ensures.values;
      stop = IfErr-weaker c.fill_uniform.result (IsStopOf there layout.count) (IsStopOf here layout.count) (λ stop found. stop_same there here layout.count same stop found) c.fill_uniform.ensures.stop;
    }
