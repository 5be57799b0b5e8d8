use Rattle.std.proofs.Common.{◌≡◌, ◌-◌, ◌*◌, Ok}
use Rattle.apl_scalar.specs.Scalar.{dyadic_numbers}
use Rattle.apl_scan.specs.Lines.{folded, number_along}
use Rattle.apl_scan.proofs.lines.fold_up_to.Given as goal

abbrev pub invariant-loop-done : goal.invariant-loop-done
invariant-loop-done g l = record {
  left : l.left ≡ l.place - l._done * l.stride;
  total : Ok l.total ≡ folded (dyadic_numbers g.F.Function.FUNCTION) (number_along l.numbers (l.place - l.before * l.stride) l.stride) (l.before - l._done) l._done;
}
