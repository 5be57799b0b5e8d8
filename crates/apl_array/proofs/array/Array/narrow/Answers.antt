use Rattle.std.proofs.Common.{arith}
use Rattle.apl_array.proofs.Arrays.{IsArray-number_array}
use Rattle.apl_array.proofs.array.Array.narrow.Goals as goal

pub invariant_of-result : goal.invariant_of-result
invariant_of-result c = IsArray-number_array c.args.shape c.args.numbers.items c.rank-lawful.ensures.lawful (omega (arith, c.requires))
