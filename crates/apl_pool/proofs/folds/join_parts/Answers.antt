use Rattle.std.proofs.Common.{◌+◌, ◌*◌, ◌<◌, ◌≤◌, ℕ, Option, None, slice_index, sym, subst, ◌∙◌, length-set, get_or-set_other, arith}
use Rattle.std.proofs.lemmas.Result.{err_from_is_err_and}
use Rattle.apl_pool.specs.Folds.{IsFolded}
use Rattle.apl_pool.proofs.RowParts.{part_within, piece_apart, row_apart}
use Rattle.apl_pool.proofs.FoldedParts.{folded_is, stop_is, stop_behind}
use Rattle.apl_pool.proofs.folds.join_parts.Goals as goal

pub returns-in_err-part-clause-folded : goal.returns-in_err-part-clause-folded
returns-in_err-part-clause-folded g c =
    let s = g.S.Summary in
    let outcome = g.K.Kernel.outcome c.args.kernel.now in
    let p = err_from_is_err_and c.from_residual.result c.from_residual.ensures.1 in
    let piece = c.piece_as-piece.ensures in
    let within : c.piece_as-piece.result.to ≤ g.K.Kernel.place_count c.args.kernel.now = omega (arith, piece.within, c.requires.places) in
    let stop = stop_is s.step s.item_count s.outcome outcome _ _ _ _ c.in_err-part.was c.complete_part.ensures in
    rw (p.1, p.2) (stop_behind s.step s.item_count s.outcome outcome _ _ _ _ _ c.loop-number.folded _ (omega arith) piece.from within c.loop-number.invariant.0 stop)

pub loop-number-preserved : goal.loop-number-preserved
loop-number-preserved g c =
    let s = g.S.Summary in
    let outcome = g.K.Kernel.outcome c.args.kernel.now in
    let starts = c.args.pieces.now.starts.items in
    let n = c.loop-number.number in
    let rows = c.args.rows in
    let row = c.args.row in
    let so_far = c.loop-number.invariant in
    let piece = c.piece_as-piece.ensures in
    let F : ℕ → ℕ → Type 0 = λ from to. IsFolded s.step s.item_count s.outcome outcome from to c.in_ok-part.part in
    let more = folded_is s.step s.item_count s.outcome outcome _ _ _ _ c.in_ok-part.was c.complete_part.ensures in
    let here = subst (λ from. F from c.piece_as-piece.result.to) piece.from more in
    let there = subst (λ to. F (slice_index starts n) to) piece.to here in (
      c.join_both-folded.ensures outcome 0 (slice_index starts n) (slice_index starts (n + 1)) so_far.0 there,
      rw c.take_part-part.ensures.rest (length-set c.loop-number.parts (n * rows + row) None ∙ so_far.1),
      rw c.take_part-part.ensures.rest (λ m le. get_or-set_other c.loop-number.parts (n * rows + row) (m * rows + row) None None (piece_apart n m row rows c.requires.row (omega arith)) ∙ so_far.2 m (omega arith)),
      rw c.take_part-part.ensures.rest (λ m other high low. get_or-set_other c.loop-number.parts (n * rows + row) (m * rows + other) None None (row_apart n m row other rows c.requires.row low high) ∙ so_far.3 m other high low),
    )

pub take_part-part-requires : goal.take_part-part-requires
take_part-part-requires g c =
    let inside = part_within c.loop-number.number c.args.row c.args.rows c.args.pieces.now.count c.requires.row (let t = c.loop-number-test.true in omega (arith, c.count-number-end.ensures)) in
    omega (arith, inside, c.requires.parts, c.loop-number.invariant.1)

pub complete_part-requires-clause-right : goal.complete_part-requires-clause-right
complete_part-requires-clause-right g c = λ mark.
    let s = g.S.Summary in
    let n = c.loop-number.number in
    let start = slice_index c.args.pieces.now.starts.items in
    let piece = c.piece_as-piece.ensures in
    let F : ℕ → ℕ → Option g.row.S.Denot → Type 0 = λ from to part. IsFolded s.step s.item_count s.outcome (g.K.Kernel.outcome c.args.kernel.now) from to part in
    let inside : n < c.args.pieces.now.count = (let t = c.loop-number-test.true in omega (arith, c.count-number-end.ensures)) in
    let part = subst (F (start n) (start (n + 1))) (sym (c.take_part-part.ensures.part ∙ c.loop-number.invariant.2 n (omega arith))) (c.requires.right n inside mark) in
    subst (λ from. F from c.piece_as-piece.result.to c.take_part-part.result) (sym piece.from) (subst (λ to. F (start n) to c.take_part-part.result) (sym piece.to) part)

pub returns-in_err-part-clause-kept : goal.returns-in_err-part-clause-kept
returns-in_err-part-clause-kept g c = λ m other high low.
    let n = c.loop-number.number in
    let rows = c.args.rows in
    let row = c.args.row in
    rw c.take_part-part.ensures.rest (get_or-set_other c.loop-number.parts (n * rows + row) (m * rows + other) None None (row_apart n m row other rows c.requires.row low high) ∙ c.loop-number.invariant.3 m other high low)
