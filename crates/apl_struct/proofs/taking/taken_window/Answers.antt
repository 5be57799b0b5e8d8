use Rattle.std.proofs.Common.{◌+◌, ◌≤◌, arith}
use Rattle.std.proofs.Math.Nat.{mul-le-mul_right}
use Rattle.apl_struct.proofs.taking.taken_window.Goals as goal

pub invariant_of-result-2-clause-start_near : goal.invariant_of-result-2-clause-start_near
invariant_of-result-2-clause-start_near c =
    let short : c.saturating_sub-2.result ≤ c.args.length = omega arith in
    omega (arith, mul-le-mul_right c.args.stride short, c.requires.near)

pub invariant_of-result-2-clause-end_near : goal.invariant_of-result-2-clause-end_near
invariant_of-result-2-clause-end_near c =
    let ends : c.unsigned_abs-extent.result + c.saturating_sub-2.result ≤ c.args.length + c.saturating_sub.result = omega arith in
    omega (arith, mul-le-mul_right c.args.stride ends, c.requires.near)
