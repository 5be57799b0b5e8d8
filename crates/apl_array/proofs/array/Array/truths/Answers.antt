use Rattle.std.proofs.Common.{arith}
use Rattle.apl_array.proofs.Arrays.{IsArray-truth_array}
use Rattle.apl_array.proofs.array.Array.truths.Goals as goal

pub invariant_of-result : goal.invariant_of-result
invariant_of-result c = IsArray-truth_array c.args.shape c.args.truths.items c.rank-lawful.ensures.lawful (omega (arith, c.requires))
