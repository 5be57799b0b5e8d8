-- Elements of two lists that meet, where those of each list are at equal distances.
use Rattle.std.specs.Prelude.{ℕ, ℤ, pos, ◌+◌, ◌*◌, List, Result, slice_index_or}
use Rattle.apl_array.specs.declared.array.Elem.{Elem}
use Rattle.apl_array.specs.declared.array.Elem.TheVariants.{Int}
use Rattle.apl_array.specs.declared.function.ScalarFunction.{ScalarFunction}
use Rattle.apl_pool.specs.declared.kernel.Fault.{Fault}
use Rattle.apl_scalar.specs.Scalar.{dyadic_of}

-- element k of those that are `stride` apart from place `first` on
abbrev pub spaced_element : List Elem → (first stride k : ℕ) → Elem
spaced_element elements first stride k = slice_index_or elements (first + k * stride) (Int (pos 0))

-- a function of element k of each list
abbrev pub meeting_number : ScalarFunction → List Elem → (first stride : ℕ) → List Elem → (other gap : ℕ) → ℕ → Result ℤ Fault
meeting_number f left first stride right other gap k = dyadic_of f (spaced_element left first stride k) (spaced_element right other gap k)
