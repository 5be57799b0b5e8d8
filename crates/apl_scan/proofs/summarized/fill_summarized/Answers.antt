use Rattle.std.proofs.Common.{◌≡◌, ℕ, ◌+◌, ◌-◌, ◌*◌, ◌/◌, ◌<◌, ◌≤◌, length, ◌∙◌, arith}
use Rattle.apl_pool.specs.declared.kernel.TheConstants.{MOST_PLACES}
use Rattle.apl_scan.specs.declared.chunks.TheConstants.{CHUNK}
use Rattle.apl_scan.specs.Running.{AreUpToChunks}
use Rattle.apl_scan.proofs.ScannedPlaces.{chunks_within, rows_of_line, chunks_before_last}
use Rattle.apl_scan.proofs.summarized.fill_summarized.Goals as goal

pub invariant_of-scans : goal.invariant_of-scans
invariant_of-scans g c =
    let count = length c.args.numbers.now in
    let items = c.args.items in
    let per_line = (items - 1) / CHUNK in
    let beginnings = c.as_slice.result.now in
    let by : c.new.result ≡ items = c.new.ensures in
    let fit = chunks_before_last items c.requires.items.0 in
    let len : length beginnings ≡ count / items * per_line = c.as_slice.ensures.len ∙ c.in_ok-beginnings.ensures.rows in
    let most : length beginnings ≤ MOST_PLACES = omega (arith, len, chunks_within count items per_line fit.0, c.requires.most) in
    let chunks : c.new.result ≤ (per_line + 1) * CHUNK = rw by fit.1 in
    let rows : (line : ℕ) → line * c.new.result < count → (line + 1) * per_line ≤ length beginnings = λ line inside. rw len (rows_of_line count items per_line line c.requires.lines (rw by at inside)) in
    let joined : AreUpToChunks g.S.Summary.step (λ k. g.S.Summary.item_count k.summary) (λ k. g.S.Summary.outcome k.summary) c.args.numbers.now c.new.result per_line (length beginnings) beginnings =
    rw (by, len, c.as_slice.ensures.value) c.in_ok-beginnings.ensures.joined in
    record { most = c.requires.most; beginnings_most = most; chunks = chunks; rows = rows; joined = joined }
