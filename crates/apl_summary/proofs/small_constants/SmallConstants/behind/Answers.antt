use Rattle.std.proofs.Common.{◌≡◌, to_z, of_z, w64, rules}
use Rattle.apl_summary.proofs.SmallSums.{behind_is, behind_small}
use Rattle.apl_summary.proofs.small_constants.SmallConstants.behind.Goals as goal

pub returns-clause-value : goal.returns-clause-value
returns-clause-value c =
    let kept : to_z w64 (of_z w64 c.total_behind-total.result) ≡ c.total_behind-total.result = search rules in
    let item : to_z w64 (of_z w64 c.args.item) ≡ c.args.item = search rules in
    rw (c.plus_behind.ensures, c.minus_behind.ensures, kept, c.total_behind-total.ensures, item) (behind_is c.args.is_plus c.args.item c.args.self.now c.requires.lawful)

pub returns-clause-small : goal.returns-clause-small
returns-clause-small c =
    let kept : to_z w64 (of_z w64 c.total_behind-total.result) ≡ c.total_behind-total.result = search rules in
    let item : to_z w64 (of_z w64 c.args.item) ≡ c.args.item = search rules in
    rw (c.plus_behind.ensures, c.minus_behind.ensures, kept, c.total_behind-total.ensures, item) (behind_small c.args.is_plus c.args.self.now.count c.args.item c.args.self.now c.requires.small.0 c.requires.small.1)
