use Rattle.std.proofs.Common.{ℕ, ◌+◌, ◌*◌, ◌/◌, ◌%◌, ◌<◌, ◌≤◌, length, map, sym, subst, arith}
use Rattle.apl_reduce.specs.Folded.{fold_at}
use Rattle.apl_reduce.proofs.FourPlaces.{line_within, line_fold, four_written}
use Rattle.apl_reduce.proofs.axis_items.AxisItems.write_lines.Goals as goal

pub fold_lines-requires-clause-within : goal.fold_lines-requires-clause-within
fold_lines-requires-clause-within g c =
    let axis = c.args.self.now in
    let from = c.args.from in
    let starts = c.four_lines.ensures in
    let Fits : ℕ → Type 0 = λ start. start + axis.items ≤ length axis.elements.now in
    let fits : (place : ℕ) → place < axis.count → Fits (place / axis.inner * axis.block + place % axis.inner) =
    λ place below. line_within axis.items axis.inner _ _ c.requires.near axis.two (axis.within place below) in
    record {
      first = subst Fits (sym starts.first) (fits from (omega (arith, c.requires.places)));
      second = subst Fits (sym starts.second) (fits (from + 1) (omega (arith, c.requires.places)));
      third = subst Fits (sym starts.third) (fits (from + 2) (omega (arith, c.requires.places)));
      fourth = subst Fits (sym starts.fourth) (fits (from + 3) (omega (arith, c.requires.places)));
    }

pub returns-in-Some-clause-values : goal.returns-in-Some-clause-values
returns-in-Some-clause-values g c =
    let axis = c.args.self.now in
    let from = c.args.from in
    let f = g.F.Function.FUNCTION in
    let elements = map g.T.ElementType.elem_of axis.elements.now in
    let starts = c.four_lines.ensures in
    let folds = c.in-Some.ensures in
    four_written (fold_at f elements axis.items axis.block axis.inner) from c.in-Some.folds c.put_four.new.room
    (line_fold f elements axis.items axis.block axis.inner from _ _ c.requires.near starts.first folds.first)
    (line_fold f elements axis.items axis.block axis.inner (from + 1) _ _ c.requires.near starts.second folds.second)
    (line_fold f elements axis.items axis.block axis.inner (from + 2) _ _ c.requires.near starts.third folds.third)
    (line_fold f elements axis.items axis.block axis.inner (from + 3) _ _ c.requires.near starts.fourth folds.fourth)
    c.put_four.ensures.values (omega arith)
