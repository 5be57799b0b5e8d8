use Rattle.std.proofs.Common.{◌≤◌, pos, Ok, ◌≤ℤ◌, ◌<ℤ◌, FitsSigned, w64, sym, ap, ◌∙◌, arith}
use Rattle.std.specs.Prelude.{unsigned_abs}
use Rattle.std.proofs.lemmas.Int.{ints, to_z-of_z}
use Rattle.apl_scalar.proofs.Exact.{RangeLaw}
use Rattle.apl_scalar.proofs.Powers.{power_of_bit, minus_one, minus_one_is, large_power_past}
use Rattle.apl_scalar.proofs.arithmetic.large_power.Goals as goal

pub returns-then-unsigned_abs-gt1 : goal.returns-then-unsigned_abs-gt1
returns-then-unsigned_abs-gt1 c =
    let fits : FitsSigned w64 c.args.x = c.ranges.x in
    let size = simp to_z-of_z at c.unsigned_abs.ensures.value in
    let two : 2 ≤ unsigned_abs c.args.x = omega (arith, size, c.if-unsigned_abs-gt1.true) in
    let range : RangeLaw = record { decided = c.range_is_decided.ensures.decided; bits = c.range_is_decided.ensures.bits } in
    sym (large_power_past range c.args.x c.args.n two c.requires)

pub returns-then-x-lt0 : goal.returns-then-x-lt0
returns-then-x-lt0 c =
    let fits : FitsSigned w64 c.args.x = c.ranges.x in
    let size = simp to_z-of_z at c.unsigned_abs.ensures.value in
    let small : unsigned_abs c.args.x ≤ 1 = omega (arith, size, c.if-unsigned_abs-gt1.false) in
    let below : c.args.x <ℤ pos 0 = omega (arith, ints) in
    rw (minus_one c.args.x below small) (minus_one_is c.args.n c.power_of_minus_one.result c.power_of_minus_one.ensures)

pub returns-else-x-lt0 : goal.returns-else-x-lt0
returns-else-x-lt0 c =
    let fits : FitsSigned w64 c.args.x = c.ranges.x in
    let size = simp to_z-of_z at c.unsigned_abs.ensures.value in
    let small : unsigned_abs c.args.x ≤ 1 = omega (arith, size, c.if-unsigned_abs-gt1.false) in
    let natural : pos 0 ≤ℤ c.args.x = omega (arith, ints) in
    ap Ok (to_z-of_z w64 c.args.x fits) ∙ power_of_bit c.args.x c.args.n natural small (omega (arith, c.requires))
