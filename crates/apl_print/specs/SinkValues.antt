-- What contracts see of the sinks of this crate.
use Rattle.std.specs.Prelude.{ℕ, List, Option}

-- a writer as a sink: the writer, and how many calls failed
pub record OutValue (W : Type 0) : Type 0 where
  pub inner : W
  pub failures : ℕ

-- A sink in memory: the bytes that it took, how many it takes at most in a call, and how many calls failed. If one is to fail, it
-- also has how many calls there are up to that
pub record MemorySinkValue : Type 0 where
  pub bytes : List ℕ
  pub most : ℕ
  pub calls_to_failure : Option ℕ
  pub failures : ℕ
