use Rattle.std.proofs.Common.{◌≡◌, ℕ, List, ap, sym, subst, ◌∙◌, arith, rules}
use Rattle.std.proofs.lemmas.Result.{IfOk-weaker, IfOk-at_ok}
use Rattle.std.proofs.lemmas.Iterator.{items_from_collect, YieldsList-from_map, YieldsList-from_range}
use Rattle.apl_array.specs.Transposition.{AreAxesInto, items_onto, least, transposed_shape}
use Rattle.apl_struct.specs.Rearranging.{named_axes}
use Rattle.apl_struct.proofs.Permuted.{lawful_transposed, names_below}
use Rattle.apl_struct.proofs.permuting.transposed_shape.Goals as goal
use Rattle.apl_struct.proofs.permuting.transposed_shape.Goals.{After-as_slice}

slice : (c : After-as_slice) → c.as_slice.result.now ≡ transposed_shape (named_axes c.args.axes.now) c.args.axes.now c.args.argument.now
slice c =
    let axes = c.args.axes.now in
    let least_onto : ℕ → ℕ = λ j. least (items_onto j axes c.lengths-lengths.result.now) in
    let items : c.in_ok-least.least.items ≡ transposed_shape (named_axes axes) axes c.lengths-lengths.result.now =
    IfOk-at_ok _ c.in_ok-least.was (items_from_collect _ c.collect.ensures.ran
    (YieldsList-from_map _ least_onto (YieldsList-from_range 0 _ _ c.map.ensures.source (omega arith)) c.map.ensures.closure (λ x r q k. search rules))) in
    c.as_slice.ensures.value ∙ items ∙ ap (transposed_shape (named_axes axes) axes) c.lengths-lengths.ensures.lengths

pub lawful_shape-requires : goal.lawful_shape-requires
lawful_shape-requires c =
    rw (slice c)
    (lawful_transposed c.transposed_index_has_place.ensures.shape c.args.axes.now c.args.argument.now c.requires.len c.requires.named c.lengths-lengths.ensures.lawful)

pub returns-clause-shape : goal.returns-clause-shape
returns-clause-shape c = IfOk-weaker c.lawful_shape.result _ _ (λ shape is. is ∙ slice (goal.at.returns-clause-shape c).After-as_slice) c.lawful_shape.ensures.shape

pub returns-clause-into : goal.returns-clause-into
returns-clause-into c =
    let axes = c.args.axes.now in
    let source = c.args.argument.now in
    let Into : List ℕ → Type 0 = λ shape. AreAxesInto source axes shape in
    let into = c.transposed_index_has_place.ensures.fits source axes (named_axes axes) c.requires.len (λ k d inside. names_below axes k d inside) in
    IfOk-weaker c.lawful_shape.result _ Into (λ shape is. subst Into (sym (is ∙ slice (goal.at.returns-clause-into c).After-as_slice)) into) c.lawful_shape.ensures.shape
