use Rattle.std.proofs.Common.{◌≡◌, ◌+◌, ◌++◌, take, length, vec_capacity}
use Rattle.apl_scan.specs.Parities.{parity, parities}
use Rattle.apl_scan.proofs.parities.append_each.Given as goal

abbrev pub invariant-loop-truth : goal.invariant-loop-truth
invariant-loop-truth l = record {
  parity : l.parity ≡ parity l.before (take l.truth-index l.truths);
  items : l.values.items ≡ l.initial.values.items ++ parities l.before (take l.truth-index l.truths);
  len : length l.values.items ≡ length l.initial.values.items + l.truth-index;
  capacity : vec_capacity l.values ≡ vec_capacity l.initial.values;
}
