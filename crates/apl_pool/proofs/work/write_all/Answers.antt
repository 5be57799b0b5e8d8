use Rattle.std.proofs.Common.{◌≡◌, ◌≤◌, ap, ◌∙◌, arith, get_or, length, max, take_at, vec_len}
use Rattle.std.proofs.lemmas.Result.{err_from_is_err_and}
use Rattle.apl_pool.specs.Parts.{AreValuesAt}
use Rattle.apl_pool.proofs.Values.{IsStopFrom-after_written}
use Rattle.apl_pool.proofs.Completes.{AreValuesAt-then, AreWritten-from_at}
use Rattle.apl_pool.proofs.work.write_all.Goals as goal

pub returns-in_err-write_at : goal.returns-in_err-write_at
returns-in_err-write_at g c =
    let outcome = g.K.Kernel.outcome c.args.kernel.now in
    let p = err_from_is_err_and c.from_residual-in_err-write_at.result c.from_residual-in_err-write_at.ensures.1 in
    let values = c.loop-piece.values.items in
    let mid = max c.loop-piece.piece.from c.args.done in
    let next = c.pass_pieces-next in
    let so_far = c.loop-piece.invariant in
    let within : c.between.result.to ≤ g.K.Kernel.place_count c.args.kernel.now = omega (arith, c.between.ensures.to, next.ensures.order, next.ensures.within, c.count-count.ensures.value) in
    let long : mid ≤ length values = omega (arith, so_far.2) in
    rw (p.1, p.2) (IsStopFrom-after_written outcome 0 mid c.between.result.from c.between.result.to _ values _ (omega arith) c.between.ensures.from within (AreWritten-from_at outcome mid values long so_far.0) c.in_err-write_at.ensures.stop)

pub loop-piece-preserved : goal.loop-piece-preserved
loop-piece-preserved g c =
    let outcome = g.K.Kernel.outcome c.args.kernel.now in
    let mid = max c.loop-piece.piece.from c.args.done in
    let next = c.pass_pieces-next in
    let so_far = c.loop-piece.invariant in
    let grown = c.in_ok-values.values in
    let lent = c.as_mut_slice.result.now in
    let new = c.write_at.new.values in
    let len : grown.len ≡ max (vec_len c.loop-piece.values) next.result.from = c.in_ok-values.ensures.len in
    let long : length new ≡ grown.len = omega (arith, c.in_ok-write_at.ensures.len, c.as_mut_slice.ensures.len) in
    let to : c.between.result.to ≡ next.result.from = c.between.ensures.to in
    let all : AreValuesAt outcome 0 c.between.result.to new =
    AreValuesAt-then outcome mid c.between.result.from c.between.result.to c.loop-piece.values.items lent new c.between.ensures.from
    (λ k d h. ap (λ l. get_or l k d) c.as_mut_slice.ensures.value ∙ c.in_ok-values.ensures.kept k d (omega (arith, so_far.2)))
    c.in_ok-write_at.ensures.kept so_far.0 c.in_ok-write_at.ensures.ok in
    let there : AreValuesAt outcome 0 (max next.result.from c.args.done) new = λ k d low high. all k d low (omega (arith, to, next.ensures.after, so_far.4)) in (
      rw (take_at new _ grown.len long) there,
      omega (arith, len, so_far.1),
      omega (arith, len, next.ensures.after, so_far.4),
      omega (arith, len, so_far.3, next.ensures.order, next.ensures.within),
      omega (arith, next.ensures.after, next.ensures.order, so_far.4),
      next.ensures.number,
      next.ensures.some,
      next.ensures.order,
      next.ensures.within,
    )
