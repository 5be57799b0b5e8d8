use Rattle.std.proofs.Common.{◌+◌, ◌-◌, ◌*◌, ◌/◌, ◌≤◌, map, arith}
use Rattle.std.proofs.lemmas.Option.{IfSome_then}
use Rattle.apl_reduce.proofs.Folds.{line_folded}
use Rattle.apl_reduce.proofs.line_folds.fold_lines.Goals as goal

pub returns : goal.returns
returns g c =
    let f = g.F.Function.FUNCTION in
    let elements = map g.T.ElementType.elem_of c.args.elements.now in
    let starts = c.args.starts in
    let count = c.args.count in
    let done = 2 * (count / 2 - 1) in
    let within : done + 2 ≤ count = omega (arith, c.requires.two) in
    let last = c.in_ok-totals.ensures in
    IfSome_then c.fold_pairs.result c.fold_pairs.ensures (λ folds all. record {
      first = line_folded f elements starts.first done count _ _ within last.first all.first;
      second = line_folded f elements starts.second done count _ _ within last.second all.second;
      third = line_folded f elements starts.third done count _ _ within last.third all.third;
      fourth = line_folded f elements starts.fourth done count _ _ within last.fourth all.fourth;
    })
