use Rattle.std.proofs.Common.{◌≡◌, pos, of_z, w64, ap, arith}
use Rattle.apl_reduce.proofs.Left.{carry_left}
use Rattle.apl_reduce.proofs.carrying.residue.Goals as goal

pub returns : goal.returns
returns c =
    let some : c.args.radix ≡ pos 0 → ⊥ = λ none. absurd (c.if-radix-eq0.false (ap (of_z w64) none)) in
    search (arith, carry_left)
