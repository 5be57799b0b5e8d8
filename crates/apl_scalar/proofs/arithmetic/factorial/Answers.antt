use Rattle.std.proofs.Common.{◌≡◌, ◌<◌, false, sym, FitsSigned, w64, arith}
use Rattle.std.specs.Prelude.{unsigned_abs}
use Rattle.std.specs.Int.{is_negative}
use Rattle.std.proofs.lemmas.Int.{ints, to_z-of_z}
use Rattle.apl_scalar.specs.Arithmetic.{factorial}
use Rattle.apl_scalar.proofs.Exact.{RangeLaw, exact_large}
use Rattle.apl_scalar.proofs.Counting.{factorial_beyond}
use Rattle.apl_scalar.proofs.arithmetic.factorial.Goals as goal

pub returns-then-n-gt20 : goal.returns-then-n-gt20
returns-then-n-gt20 c =
    let natural : is_negative c.args.x ≡ false = grind (arith, ints) in
    let fits : FitsSigned w64 c.args.x = c.ranges.x in
    let size = simp to_z-of_z at c.unsigned_abs-n.ensures.value in
    let large : 20 < unsigned_abs c.args.x = omega (arith, size, c.if-n-gt20.true) in
    let range : RangeLaw = record { decided = c.range_is_decided.ensures.decided; bits = c.range_is_decided.ensures.bits } in
    rw natural (sym (exact_large range (factorial (unsigned_abs c.args.x)) (factorial_beyond (unsigned_abs c.args.x) large)))
