use Rattle.apl_pool.proofs.Values.{IsOk-from_written}
use Rattle.apl_pool.proofs.work.write_piece.Goals as goal

pub returns-in-Err-clause-stop : goal.returns-in-Err-clause-stop
returns-in-Err-clause-stop g c =
    let first = c.in-Err.ensures.fault in
    rw c.stop_at.ensures (record {
      at_least = first.at_least;
      below = first.below;
      faulty = first.faulty;
      earlier = IsOk-from_written _ c.args.piece.from _ _ first.before;
    })
