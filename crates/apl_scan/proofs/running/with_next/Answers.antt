use Rattle.std.proofs.Common.{◌≡◌, [], ◌∷◌, to_z, of_z, w64, ap, ◌∙◌, rules}
use Rattle.apl_pool.specs.Summaries.{IsSummaryOf}
use Rattle.apl_scan.proofs.Joins.{of_both, of_one}
use Rattle.apl_scan.proofs.running.with_next.Goals as goal

pub returns-in-Some : goal.returns-in-Some
returns-in-Some g c = λ numbers is.
    let step = g.S.Summary.step in
    let next = c.one-next.ensures in
    let number : to_z w64 (of_z w64 c.args.number) ≡ c.args.number = search rules in
    let before : IsSummaryOf step g.S.Summary.item_count g.S.Summary.outcome c.in-Some.before numbers = rw c.in-Some.is at is in
    of_both step g.S.Summary.item_count g.S.Summary.outcome c.in-Some.before c.one-next.result c.join.result numbers (c.args.number ∷ [])
    before (of_one step g.S.Summary.item_count g.S.Summary.outcome c.one-next.result c.args.number next.count (λ r inside. next.outcome r inside ∙ ap (λ y. step y r) number)) next.range c.join.ensures.count c.join.ensures.outcome
