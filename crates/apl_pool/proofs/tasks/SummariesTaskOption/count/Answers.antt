use Rattle.std.proofs.Common.{arith}
use Rattle.std.proofs.Math.Nat.{mul-le-mul_left}
use Rattle.apl_pool.proofs.tasks.SummariesTaskOption.count.Goals as goal

pub overflow_mul-result : goal.overflow_mul-result
overflow_mul-result g c =
    let t = c.args.self.now in
    let few = mul-le-mul_left (g.K.Rows.row_count t.rows.now) t.pieces.now.few in
    rw (c.rows.ensures, c.count.ensures) (omega (arith, few, t.most))
