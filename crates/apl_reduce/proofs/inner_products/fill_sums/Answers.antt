use Rattle.std.proofs.Common.{◌≡◌, ℕ, ℤ, ◌/◌, ◌%◌, ◌<◌, map, Result, Ok, ap, subst, ◌∙◌}
use Rattle.std.proofs.lemmas.Result.{IfOk-weaker, IfErr-weaker}
use Rattle.apl_array.specs.declared.array.Elem.TheVariants.{Int}
use Rattle.apl_array.specs.declared.function.ScalarFunction.TheVariants.{Plus, Times}
use Rattle.apl_pool.specs.declared.kernel.Fault.{Fault}
use Rattle.apl_pool.specs.Pool.{AreValues, IsStopOf}
use Rattle.apl_reduce.specs.declared.sums.Sums.{Sums}
use Rattle.apl_reduce.specs.Layouts.{sum_in, inner_number}
use Rattle.apl_reduce.proofs.Adding.{inner_sum}
use Rattle.apl_reduce.proofs.Reordered.{values_same, stop_same}
use Rattle.apl_reduce.proofs.inner_products.fill_sums.Goals as goal

-- the sum at a place, by its line and its column
abbrev sum_there : Sums → ℕ → Result ℤ Fault
sum_there s place = Ok (sum_in s.layout.now s.left.now s.right.now (place / s.layout.now.columns) (place % s.layout.now.columns))

abbrev number_there : Sums → ℕ → Result ℤ Fault
number_there s = inner_number s.layout.now (map Int s.left.now) (map Int s.right.now) Plus Times

pub returns : goal.returns
returns g c =
    let s = c.new.result.lines in
    let layout = c.args.layout.now in
    let is = c.new.ensures in
    let range = c.range_is_decided.ensures in
    let here = inner_number layout (map Int c.args.left.now) (map Int c.args.right.now) Plus Times in
    let count : s.layout.now.count ≡ layout.count = ap (λ (t : Sums). t.layout.now.count) is in
    let same : (place : ℕ) → place < layout.count → sum_there s place ≡ here place = λ place inside.
    inner_sum range.decided range.bits s.layout.now s.left.now s.right.now place s.small
    ∙ ap (λ (t : Sums). number_there t place) is in
    record {
      values = IfOk-weaker c.fill.result (λ v. AreValues (sum_there s) s.layout.now.count v.items) (λ v. AreValues here layout.count v.items)
          (λ v values. values_same (sum_there s) here layout.count same v.items (subst (λ n. AreValues (sum_there s) n v.items) count values)) c.fill.ensures.values;
      stop = IfErr-weaker c.fill.result (IsStopOf (sum_there s) s.layout.now.count) (IsStopOf here layout.count)
          (λ stop found. stop_same (sum_there s) here layout.count same stop (subst (λ n. IsStopOf (sum_there s) n stop) count found)) c.fill.ensures.stop;
    }
