use Rattle.std.proofs.Common.{◌≡◌, ℕ, true, ◌≤◌}
use Rattle.apl_array.specs.Range.{in_range}
use Rattle.apl_reduce.specs.Fronts.{served, front_value}
use Rattle.apl_reduce.proofs.decoding.DecodingKernel.at.Given as goal

abbrev pub invariant-loop-k : goal.invariant-loop-k
invariant-loop-k l =
    let n = l.self.count in
    let radices = served n l.self.radices.is_single l.self.radices.numbers.now in
    let digits = served n l.self.digits.is_single l.self.digits.numbers.now in
    record {
      value : l.value ≡ front_value radices digits l.k;
      fronts : (j : ℕ) → j ≤ l.k → in_range (front_value radices digits j) ≡ true;
    }
