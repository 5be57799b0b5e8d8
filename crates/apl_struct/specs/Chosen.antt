-- The values of a list at indexes that may be none of it. No contract of a public function cites this file.
use Rattle.std.specs.Prelude.{◌-ℤ◌, slice_index_or, ℕ, ℤ, pos, negsuc, List, Option, Some, None, Result, Ok, Err, slice_get}
use Rattle.apl_pool.specs.declared.kernel.Fault.{Fault}
use Rattle.apl_pool.specs.declared.kernel.Fault.TheVariants.{Index}

-- a value that there is, or else the fault
abbrev pub value_or_fault : {T : Type 0} → Option T → Result T Fault
value_or_fault (Some value) = Ok value
value_or_fault None = Err Index

-- the value at an index, or the fault of a number that is no index
abbrev pub chosen_value : {T : Type 0} → List T → ℤ → Result T Fault
chosen_value values (pos index) = value_or_fault (slice_get values index)
chosen_value values (negsuc n) = Err Index

-- the value at the index that a place of a list of numbers has, where the first index is `first`
abbrev pub chosen_at : {T : Type 0} → List T → List ℤ → (first place : ℕ) → Result T Fault
chosen_at values numbers first place = chosen_value values (slice_index_or numbers place (pos 0) -ℤ pos first)
