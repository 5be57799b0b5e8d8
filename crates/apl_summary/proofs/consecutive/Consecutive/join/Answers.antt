use Rattle.std.proofs.Common.{◌++◌, sym, subst, rules}
use Rattle.apl_summary.specs.declared.consecutive_sums.ConsecutiveSums.{ConsecutiveSums}
use Rattle.apl_summary.specs.ConsecutiveSums.{AreConsecutiveSums, AreSumsOf}
use Rattle.apl_summary.proofs.ConsecutiveLists.{small_sums, joined_are, joined_of}
use Rattle.apl_summary.proofs.consecutive.Consecutive.join.Goals as goal

pub joined-requires-clause-within : goal.joined-requires-clause-within
joined-requires-clause-within c = (small_sums _ c.args.left.now.lawful, small_sums _ c.args.right.now.lawful)

pub invariant_of-result : goal.invariant_of-result
invariant_of-result c = record { lawful = subst AreConsecutiveSums (sym c.joined.ensures) (joined_are _ _ c.args.left.now.lawful c.args.right.now.lawful (search rules)) }

pub returns-clause-list : goal.returns-clause-list
returns-clause-list c = λ xs ys p q. subst (λ (s : ConsecutiveSums). AreSumsOf s (xs ++ ys)) (sym c.joined.ensures) (joined_of _ _ xs ys p q)
