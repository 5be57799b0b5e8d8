-- A value that is there only if it is in the range. No contract of a public function cites this file.
use Rattle.std.specs.Prelude.{ℤ, Option, Some, None, Result, Ok, Err}
use Rattle.apl_pool.specs.declared.kernel.Fault.{Fault}
use Rattle.apl_pool.specs.declared.kernel.Fault.TheVariants.{Limit}

abbrev pub limited_value : Option ℤ → Result ℤ Fault
limited_value (Some z) = Ok z
limited_value None = Err Limit
