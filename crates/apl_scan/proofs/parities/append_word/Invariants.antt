use Rattle.std.proofs.Common.{◌≡◌, ◌+◌, ◌++◌, Bool, take, length, vec_capacity}
use Rattle.apl_scan.specs.Parities.{parities, spread}
use Rattle.apl_scan.proofs.parities.append_word.Given as goal

abbrev pub invariant-loop-byte : goal.invariant-loop-byte
invariant-loop-byte l = record {
  items : (odd : Bool) → l.before ≡ spread odd → l.values.items ≡ l.initial.values.items ++ take l.byte (parities odd l.truths);
  len : length l.values.items ≡ length l.initial.values.items + l.byte;
  capacity : vec_capacity l.values ≡ vec_capacity l.initial.values;
}
