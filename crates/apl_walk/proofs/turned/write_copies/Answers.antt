use Rattle.std.proofs.Common.{◌-◌, arith}
use Rattle.apl_walk.proofs.Lines.{more_begun}
use Rattle.apl_walk.proofs.turned.write_copies.Goals as goal

pub returns-then-count-gt-COPIES-clause-each : goal.returns-then-count-gt-COPIES-clause-each
returns-then-count-gt-COPIES-clause-each g c k d before _ =
    more_begun (λ k d. c.args.value) 4 (c.args.count - 4) _ c.write_same-2.new.room c.write_same-then-count-gt-COPIES.new.room
    (omega arith) (omega arith) (omega arith) c.write_same-2.ensures.each c.write_same-then-count-gt-COPIES.ensures.each k d (omega arith)
