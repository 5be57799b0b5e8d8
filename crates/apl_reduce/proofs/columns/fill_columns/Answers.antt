use Rattle.std.proofs.Common.{ap, ◌∙◌}
use Rattle.std.proofs.lemmas.Result.{IfOk-weaker}
use Rattle.apl_reduce.proofs.Reordered.{walked_by_columns}
use Rattle.apl_reduce.proofs.columns.fill_columns.Goals as goal

pub returns-clause-values : goal.returns-clause-values
returns-clause-values g c =
    let walk = c.new-kernel.result.lines in
    let same = c.new-kernel.ensures in
    let is = c.new.ensures in
    let columns = c.whole.ensures in
    let items = c.whole-items.ensures in
    IfOk-weaker c.fill.result _ _
    (λ v.
    walked_by_columns c.args.layout.now c.args.numbers.now walk.fill c.whole.result c.whole-items.result c.requires.within columns.extent items.extent columns.step items.step v.items walk.elements.now
    walk.outer.now walk.last walk.count (ap (λ w. w.elements.now) same ∙ is.elements) (ap (λ w. w.outer.now) same ∙ is.outer) (ap (λ w. w.last) same ∙ is.last) (ap (λ w. w.count) same ∙ is.count))
    c.fill.ensures.values
