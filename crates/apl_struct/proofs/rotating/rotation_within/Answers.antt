use Rattle.std.proofs.Common.{◌≡◌, pos, to_z, of_z, w64, arith, rules}
use Rattle.std.specs.Int.{int_rem_euclid}
use Rattle.apl_struct.proofs.Rotations.{rotated_wrapped}
use Rattle.apl_struct.proofs.rotating.rotation_within.Goals as goal

pub returns-clause-each : goal.returns-clause-each
returns-clause-each c = λ i inside.
    let z = c.args.rotation in
    let n = c.args.length in
    let r = c.rem_euclid.result in
    let value : r ≡ int_rem_euclid z (pos n) = search rules in
    let same : to_z w64 (of_z w64 r) ≡ r = search rules in
    rw same (rotated_wrapped z r n i (omega (arith, inside)) value inside)
