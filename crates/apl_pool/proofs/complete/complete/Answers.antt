use Rattle.std.proofs.Common.{◌+◌, ◌≤◌, refl, inl, inr, length, slice_index, arith}
use Rattle.std.proofs.lemmas.Result.{err_from_is_err_and}
use Rattle.apl_pool.specs.Parts.{AreValuesAt}
use Rattle.apl_pool.proofs.Bounds.{bounds_order, bounds_within}
use Rattle.apl_pool.proofs.Values.{IsStopFrom-after_written}
use Rattle.apl_pool.proofs.Completes.{AreValuesAt-append, AreValuesAt-kept, AreWritten-from_at, AreValuesAt-from_range}
use Rattle.apl_pool.proofs.complete.complete.Goals as goal

pub loop-number-init : goal.loop-number-init
loop-number-init g c =
    let are = c.args.pieces.now.starts_are in (
      (λ k d low high. absurd (omega (arith, are.first))),
      refl,
      λ n low lt mark. AreValuesAt-from_range _ _ _ _ (are.rising n lt) (omega (arith, bounds_within _ _ _ are (n + 1) (omega arith), c.requires.room)) (c.requires.marks.1 n lt mark),
    )

pub returns-in_err-complete_piece-clause-stop : goal.returns-in_err-complete_piece-clause-stop
returns-in_err-complete_piece-clause-stop g c =
    let outcome = g.K.Kernel.outcome c.args.kernel.now in
    let p = err_from_is_err_and c.from_residual.result c.from_residual.ensures.1 in
    let are = c.args.pieces.now.starts_are in
    let n = c.loop-number.number in
    let mid = slice_index c.args.pieces.now.starts.items n in
    let so_far = c.loop-number.invariant in
    let inside : n ≤ c.args.pieces.now.count = (let t = c.loop-number-test.true in omega (arith, c.count-number-end.ensures)) in
    let long : mid ≤ length c.loop-number.values = omega (arith, bounds_within _ _ _ are n inside, c.requires.room, so_far.1) in
    let within : c.piece.result.to ≤ g.K.Kernel.place_count c.args.kernel.now = omega (arith, c.piece.ensures.within, c.requires.places) in
    rw (p.1, p.2) (IsStopFrom-after_written outcome 0 mid c.piece.result.from c.piece.result.to _ c.loop-number.values _ (omega arith) c.piece.ensures.from within (AreWritten-from_at outcome mid c.loop-number.values long so_far.0) c.in_err-complete_piece.ensures.stop)

pub loop-number-preserved : goal.loop-number-preserved
loop-number-preserved g c =
    let outcome = g.K.Kernel.outcome c.args.kernel.now in
    let start = slice_index c.args.pieces.now.starts.items in
    let are = c.args.pieces.now.starts_are in
    let n = c.loop-number.number in
    let so_far = c.loop-number.invariant in
    let piece = c.piece.ensures in
    let told = c.in_ok-complete_piece.ensures in
    let old = c.loop-number.values in
    let new = c.complete_piece.new.values in
    let mine : AreValuesAt outcome (start n) (start (n + 1)) new = λ k d low high. told.ok k d (omega (arith, piece.from)) (omega (arith, piece.to)) in (
      AreValuesAt-append outcome 0 (start n) (start (n + 1)) new (AreValuesAt-kept outcome 0 (start n) c.piece.result.from c.piece.result.to old new told.kept (inl (omega (arith, piece.from))) so_far.0) mine,
      omega (arith, told.len, so_far.1),
      λ m low lt mark. AreValuesAt-kept outcome (start m) (start (m + 1)) c.piece.result.from c.piece.result.to old new told.kept
          (inr (let order = bounds_order _ _ _ are (n + 1) m low (omega arith) in omega (arith, piece.to))) (so_far.2 m (omega arith) lt mark),
    )
