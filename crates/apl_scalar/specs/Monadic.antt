-- A monadic scalar function of an array.
use Rattle.std.specs.Prelude.{ℕ, ℤ, List, Result}
use Rattle.apl_array.specs.declared.array.Kind.TheVariants.{Number}
use Rattle.apl_array.specs.Array.{ArrayValue, element_at}
use Rattle.apl_pool.specs.declared.kernel.Fault.{Fault}
use Rattle.apl_array.specs.declared.function.ScalarFunction.{ScalarFunction}
use Rattle.apl_answer.specs.declared.fault.OpFault.{OpFault}
use Rattle.apl_scalar.specs.Scalar.{monadic_of, as_element}
use Rattle.apl_answer.specs.Pointwise.{answer_of}

-- the outcome at an index list: a number or a fault
abbrev pub monadic_element : ScalarFunction → ArrayValue → List ℕ → Result ℤ Fault
monadic_element f b index = monadic_of f (element_at b index)

-- the array of the numbers at all index lists, or the first fault
abbrev pub monadic_answer : ScalarFunction → ArrayValue → Result ArrayValue OpFault
monadic_answer f b = answer_of b.shape (λ index. as_element (monadic_element f b index)) Number
