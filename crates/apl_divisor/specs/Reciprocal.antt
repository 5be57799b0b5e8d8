-- A divisor and its reciprocal. No contract of a public function cites this file.
use Rattle.std.specs.Prelude.{◌≡◌, ℕ, ◌+◌, ◌/◌, ◌^◌, ◌<◌, ◌≤◌}
use Rattle.apl_pool.specs.declared.kernel.TheConstants.{MOST_PLACES}

pub record HasReciprocal (by reciprocal : ℕ) : Type 0 where
  pub some : 0 < by
  pub most : by ≤ MOST_PLACES
  pub is : reciprocal ≡ 2 ^ 62 / by + 1
