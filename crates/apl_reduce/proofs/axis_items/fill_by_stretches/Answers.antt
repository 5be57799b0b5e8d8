use Rattle.std.proofs.Common.{◌≡◌, rules}
use Rattle.apl_array.specs.declared.function.ScalarFunction.TheVariants.{Plus}
use Rattle.apl_reduce.proofs.axis_items.fill_by_stretches.Goals as goal

pub returns-clause-stop : goal.returns-clause-stop
returns-clause-stop g c =
    let plus : c.args.f ≡ Plus = search rules in
    let near : c.args.axis.now.inner ≡ 1 = search rules in
    let rows = c.new.ensures in
    rw (plus, near, c.elements_are_numbers.ensures) (rw (rows.numbers, rows.rows, rows.items, rows.block) at c.fill_row_sums.ensures.stop)
