use Rattle.std.proofs.Common.{◌≡◌, ◌+◌, ◌*◌, ◌++◌, false, take, length, vec_capacity}
use Rattle.apl_scan.specs.Parities.{parity, parities, spread}
use Rattle.apl_scan.proofs.parities.append_line.Given as goal

abbrev pub invariant-loop-word : goal.invariant-loop-word
invariant-loop-word l = record {
  parity : l.before ≡ spread (parity false (take (l.word * 8) l.truths));
  items : l.values.items ≡ l.initial.values.items ++ parities false (take (l.word * 8) l.truths);
  len : length l.values.items ≡ length l.initial.values.items + l.word * 8;
  capacity : vec_capacity l.values ≡ vec_capacity l.initial.values;
}
