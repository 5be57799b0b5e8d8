use Rattle.std.proofs.Common.{◌+◌, ◌<◌, sym, subst, ◌∙◌, arith}
use Rattle.apl_scan.specs.Running.{AreCarriedTo}
use Rattle.apl_scan.proofs.ChunkRows.{carried_at_first, carried_past_first, carried_past_next, joint, joined_chunk, count_of_both}
use Rattle.apl_scan.proofs.chunks.carry_on.Goals as goal
use Rattle.apl_scan.proofs.chunks.carry_on.Goals.{then-remainder-ne0, else-remainder-ne0}

pub loop-row-init : goal.loop-row-init
loop-row-init g c =
    let chunks = c.args.chunks.now in
    carried_at_first g.S.Summary.step (λ k. g.S.Summary.item_count k.summary) (λ k. g.S.Summary.outcome k.summary) chunks.numbers.now chunks.items chunks.per_line chunks.rows c.args.summaries.now c.requires.rows c.requires.alone

pub join-requires : goal.join-requires
join-requires g c =
    let chunks = c.args.chunks.now in
    let row = c.loop-row.row in
    let here : row < chunks.rows = omega (arith, c.loop-row-test.true, c.requires.rows) in
    let left = c.index-summaries-row in
    let right = c.index-summaries-row-then-remainder-ne0 in
    let are = joint g.S.Summary.step (λ k. g.S.Summary.item_count k.summary) (λ k. g.S.Summary.outcome k.summary) chunks.numbers.now chunks.items chunks.per_line chunks.rows row c.loop-row.summaries left.result right.result
    chunks.some c.loop-row.auto.row here (λ none. c.if-remainder-ne0.true (c.remainder.ensures.value ∙ none)) left.is right.is c.loop-row.invariant in
    let both = count_of_both g.S.Summary.step (λ k. g.S.Summary.item_count k.summary) (λ k. g.S.Summary.outcome k.summary) chunks.numbers.now chunks.items chunks.per_line chunks.rows row left.result right.result are (chunks.within row here) in
    omega (arith, both, chunks.most)

pub loop-row-preserved : goal.loop-row-preserved
loop-row-preserved g c =
    let chunks = c.args.chunks.now in
    let row = c.loop-row.row in
    let here : row < chunks.rows = omega (arith, c.loop-row-test.true, c.requires.rows) in
    let step = g.S.Summary.step in
    elim c.if-remainder-ne0.branch [
      | then-remainder-ne0 w ↦
          let left = w.index-summaries-row in
          let right = w.index-summaries-row-then-remainder-ne0 in
          let are = joint step (λ k. g.S.Summary.item_count k.summary) (λ k. g.S.Summary.outcome k.summary) chunks.numbers.now chunks.items chunks.per_line chunks.rows row c.loop-row.summaries left.result right.result
          chunks.some c.loop-row.auto.row here (λ none. w.if-remainder-ne0.true (c.remainder.ensures.value ∙ none)) left.is right.is c.loop-row.invariant in
          let is = joined_chunk step (λ k. g.S.Summary.item_count k.summary) (λ k. g.S.Summary.outcome k.summary) chunks.numbers.now chunks.items chunks.per_line chunks.rows row left.result right.result w.join.result are
          right.result.range w.join.ensures.count w.join.ensures.outcome in
          subst (AreCarriedTo step (λ k. g.S.Summary.item_count k.summary) (λ k. g.S.Summary.outcome k.summary) chunks.numbers.now chunks.items chunks.per_line chunks.rows (row + 1)) (sym w.summaries-is)
          (carried_past_next step (λ k. g.S.Summary.item_count k.summary) (λ k. g.S.Summary.outcome k.summary) chunks.numbers.now chunks.items chunks.per_line chunks.rows row c.loop-row.summaries w.join.result here is c.loop-row.invariant)
      | else-remainder-ne0 w ↦
          subst (AreCarriedTo step (λ k. g.S.Summary.item_count k.summary) (λ k. g.S.Summary.outcome k.summary) chunks.numbers.now chunks.items chunks.per_line chunks.rows (row + 1)) (sym w.summaries-is)
          (carried_past_first step (λ k. g.S.Summary.item_count k.summary) (λ k. g.S.Summary.outcome k.summary) chunks.numbers.now chunks.items chunks.per_line chunks.rows row c.loop-row.summaries here (sym c.remainder.ensures.value ∙ w.if-remainder-ne0.false) c.loop-row.invariant)
    ]
