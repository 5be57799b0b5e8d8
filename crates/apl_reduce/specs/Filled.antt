-- What the pool answers for the outcomes at some places: the values at all, or why there are none. No contract of a public function
-- cites this file.
use Rattle.std.specs.Prelude.{ℕ, ℤ, Result, IfOk, IfErr}
use Rattle.std.specs.declared.vec.Vec.{Vec}
use Rattle.apl_pool.specs.declared.kernel.Fault.{Fault}
use Rattle.apl_pool.specs.declared.kernel.Stop.{Stop}
use Rattle.apl_pool.specs.Pool.{AreValues, IsStopOf}

module _ {Z : Type 0} (outcome : ℕ → Result ℤ Fault) where
  -- the values at all places below `count`, or the stop that there is
  pub record IsFilled (count : ℕ) (filled : Result (Vec ℤ Z) Stop) : Type 0 where
    pub values : IfOk filled (λ v. AreValues outcome count v.items)
    pub stop : IfErr filled (IsStopOf outcome count)
