use Rattle.apl_scan.specs.Running.{AreCarriedTo}
use Rattle.apl_scan.proofs.chunks.carry_on.Given as goal

abbrev pub invariant-loop-row : goal.invariant-loop-row
invariant-loop-row g l = AreCarriedTo g.S.Summary.step (λ k. g.S.Summary.item_count k.summary) (λ k. g.S.Summary.outcome k.summary) l.chunks.numbers.now l.chunks.items l.chunks.per_line l.chunks.rows l.row l.summaries
