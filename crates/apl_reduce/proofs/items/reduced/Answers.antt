use Rattle.std.proofs.Common.{◌≡◌, suc, ◌-◌, true, arith, rules}
use Rattle.std.specs.Result.{is_ok}
use Rattle.apl_reduce.proofs.JudgedItems.{judged_value, judged_with_fault, judged_without_fault}
use Rattle.apl_reduce.proofs.items.reduced.Goals as goal

pub returns-then-is_ok : goal.returns-then-is_ok
returns-then-is_ok g c =
    let long : g.X.Items.item_count c.args.items.now ≡ suc (c.count-count.result - 1) = omega (arith, c.count-count.ensures) in
    let ok : is_ok c.folded-folded.result ≡ true = search rules in
    rw long (judged_value (g.X.Items.outcome c.args.items.now) (g.F.Dyadic.function c.args.function) (c.count-count.result - 1) c.folded-folded.result c.folded-folded.ensures ok)

pub returns-in-Some : goal.returns-in-Some
returns-in-Some g c =
    judged_with_fault (g.X.Items.outcome c.args.items.now) _ (g.X.Items.item_count c.args.items.now) c.in-Some.fault _ c.first_fault.ensures c.in-Some.is

pub returns-in-None : goal.returns-in-None
returns-in-None g c =
    let n = g.X.Items.item_count c.args.items.now in
    let long : n ≡ suc (c.count-count.result - 1) = omega (arith, c.count-count.ensures) in
    judged_without_fault (g.X.Items.outcome c.args.items.now) (g.F.Dyadic.function c.args.function) n (c.count-count.result - 1) c.folded-folded.result _ long c.folded-folded.ensures
    c.first_fault.ensures c.in-None.is
