-- What contracts see of the sources of this crate.
use Rattle.std.specs.Prelude.{ℕ, List, Option}

-- a reader as a source: the reader, how many takes may still give bytes, and how many calls failed
pub record InValue (R : Type 0) : Type 0 where
  pub inner : R
  pub takes_left : ℕ
  pub failures : ℕ

-- A source in memory: the bytes that are still to come, how many it gives at most in a call, and how many calls failed. If one is to fail,
-- it also has how many calls there are up to that.
pub record MemorySourceValue : Type 0 where
  pub bytes : List ℕ
  pub most : ℕ
  pub calls_to_failure : Option ℕ
  pub failures : ℕ
