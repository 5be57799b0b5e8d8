use Rattle.std.proofs.Common.{◌≡◌, ◌<◌, ◌≤◌, true, length, slice_index, sym, ap, subst, ◌∙◌, arith}
use Rattle.std.specs.Prelude.{◌⊎◌}
use Rattle.apl_array.specs.Axes.{has_axis, axis_of}
use Rattle.apl_answer.specs.Arguments.{rank_of}
use Rattle.apl_scan.proofs.ScannedRows.{scanned_answer, axis_within}
use Rattle.apl_scan.proofs.scanning.scan.Goals as goal

pub returns : goal.returns
returns g c =
    let b = c.args.b.now in
    let k = c.in-Some.k in
    let rank : c.rank-rank.result ≡ rank_of b = c.rank-rank.ensures.rank ∙ ap length c.shape.ensures.shape in
    let within : k < rank_of b = axis_within k (rank_of b) (subst (λ n. (k < n) ⊎ (n ≡ 0)) rank c.in-Some.ensures.2) (λ none. c.if-rank-eq0.false (rank ∙ none)) in
    let has : has_axis c.args.axis (rank_of b) ≡ true = ap (has_axis c.args.axis) (sym rank) ∙ c.in-Some.ensures.0 in
    let is : k ≡ axis_of c.args.axis (rank_of b) = c.in-Some.ensures.1 ∙ ap (axis_of c.args.axis) rank in
    let n : c.axis.result ≡ slice_index b.shape k = c.axis.ensures.length ∙ ap (λ s. slice_index s k) c.shape-else-rank-eq0.ensures.shape in
    let many : 2 ≤ slice_index b.shape k = omega (arith, n, c.if-axis-lt2.false) in
    scanned_answer c.args.f b c.args.axis k c.scan_items.result has is within many c.scan_items.ensures
