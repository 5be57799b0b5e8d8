use Rattle.std.proofs.Common.{slice_index_or, ap, subst, ◌∙◌}
use Rattle.apl_pool.specs.Summaries.{IsSummaryOf}
use Rattle.apl_scan.proofs.ScannedPlaces.{same_summary, stretch_of_chunk}
use Rattle.apl_scan.proofs.summarized.Scans.chunks_before.Goals as goal

pub returns-in-Some : goal.returns-in-Some
returns-in-Some g c =
    let self = c.args.self.now in
    let row = c.in-Some.row in
    let d = c.index-beginnings-row.result in
    let up = self.joined row d c.in-Some.ensures.within in
    let list = stretch_of_chunk self.numbers.now self.per_line self.items c.args.place row c.in-Some.ensures.row in
    same_summary g.S.Summary.step g.S.Summary.item_count g.S.Summary.outcome (λ k. k.summary) c.copied.result (slice_index_or self.beginnings.now row d) _ (c.copied.ensures ∙ ap (λ k. k.summary) c.index-beginnings-row.is)
    (subst (IsSummaryOf g.S.Summary.step (λ k. g.S.Summary.item_count k.summary) (λ k. g.S.Summary.outcome k.summary) (slice_index_or self.beginnings.now row d)) list up)
