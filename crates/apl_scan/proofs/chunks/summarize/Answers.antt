use Rattle.std.proofs.Common.{◌≡◌, length, ap, subst, arith, take_at}
use Rattle.apl_pool.specs.Summaries.{IsSummaryOf}
use Rattle.apl_scan.specs.Running.{chunk_start}
use Rattle.apl_scan.proofs.ChunkRows.{chunk_is}
use Rattle.apl_scan.proofs.chunks.summarize.Goals as goal

pub carry_on-requires-clause-alone : goal.carry_on-requires-clause-alone
carry_on-requires-clause-alone g c = λ row d inside.
    let chunks = c.args.chunks.now in
    let folds = c.fold_rows-folds in
    let all : length folds.result.summaries.items ≡ chunks.rows = rw c.in_ok-folds.was at folds.ensures.ends in
    let is = folds.ensures.each row d (omega (arith, inside, all)) in
    let list = chunk_is chunks.numbers.now is.items (chunk_start chunks.items chunks.per_line row) (chunks.within row inside) is.values in
    rw c.as_mut_slice.ensures.value (subst (IsSummaryOf g.S.Summary.step (λ k. g.S.Summary.item_count k.summary) (λ k. g.S.Summary.outcome k.summary) _) list is.summary)

pub returns-clause-joined : goal.returns-clause-joined
returns-clause-joined g c = λ row d inside.
    let folds = c.fold_rows-folds in
    let all : length folds.result.summaries.items ≡ c.args.chunks.now.rows = rw c.in_ok-folds.was at folds.ensures.ends in
    let len : length c.carry_on.new.summaries ≡ folds.result.summaries.len = omega (arith, c.carry_on.ensures.rows, all, c.as_mut_slice.ensures.len, ap length c.as_mut_slice.ensures.value) in
    rw (take_at c.carry_on.new.summaries _ folds.result.summaries.len len) (c.carry_on.ensures.joined row d inside)
