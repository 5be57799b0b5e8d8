-- The answers to arguments within all limits are within all limits.
use Rattle.std.proofs.Common.{◌≡◌, ◌==◌, ℕ, Bool, true, false, if◌then◌else◌, List, length, Result, Ok, Err}
use Rattle.std.specs.Prelude.{◌&&◌, IfOk, nat_lt}
use Rattle.apl_array.specs.declared.array.Elem.{Elem}
use Rattle.apl_array.specs.declared.array.Kind.{Kind}
use Rattle.apl_array.specs.declared.array.Kind.TheVariants.{Number}
use Rattle.apl_array.specs.declared.function.ScalarFunction.{ScalarFunction}
use Rattle.apl_array.specs.Shape.{IsShape, IsIndexOf}
use Rattle.apl_array.specs.Array.{ArrayValue, element_at}
use Rattle.apl_array.specs.Range.{IsElementInRange}
use Rattle.apl_array.specs.Limits.{IsWithinLimits}
use Rattle.apl_pool.specs.declared.kernel.Fault.{Fault}
use Rattle.apl_answer.specs.declared.fault.OpFault.{OpFault}
use Rattle.apl_answer.specs.Arguments.{is_same_shape, has_one_element}
use Rattle.apl_answer.specs.Pointwise.{answer_of}
use Rattle.apl_scalar.specs.Scalar.{as_element}
use Rattle.apl_scalar.specs.Extension.{extended_shape, source_index}
use Rattle.apl_scalar.specs.Monadic.{monadic_element, monadic_answer}
use Rattle.apl_scalar.specs.Dyadic.{dyadic_number, answer_over, dyadic_answer}
use Rattle.apl_scalar.proofs.Exact.{RangeLaw}
use Rattle.apl_scalar.proofs.InRange.{element_at_in, as_element_in, monadic_of_in, dyadic_of_in}

either_shape : (b : Bool) (r s : Result (List ℕ) OpFault) → IfOk r IsShape → IfOk s IsShape → IfOk (if b then r else s) IsShape
either_shape true r s h k = h
either_shape false r s h k = k

-- the extended shape is one of the two
extended_lawful : (a b : List ℕ) → IsShape a → IsShape b → IfOk (extended_shape a b) IsShape
extended_lawful a b h k =
    either_shape (is_same_shape a b) _ _ h
    (either_shape (has_one_element a && has_one_element b) _ _ (either_shape (nat_lt (length a) (length b)) _ _ k h)
    (either_shape (has_one_element a) _ _ k (either_shape (has_one_element b) _ _ h (either_shape (length a == length b) _ _ tt tt))))

-- a lawful shape and outcomes in the range make an answer within all limits
abbrev pub LimitsLaw : Type 0
LimitsLaw = (shape : List ℕ) (outcome : List ℕ → Result Elem Fault) (kind : Kind) (a : ArrayValue) → IsShape shape
    → ((index : List ℕ) → IsIndexOf shape index → IfOk (outcome index) IsElementInRange) → answer_of shape outcome kind ≡ Ok a → IsWithinLimits a

module _ (range : RangeLaw) (law : LimitsLaw) where
  pub monadic_answer_within : (f : ScalarFunction) (b a : ArrayValue) → IsWithinLimits b → monadic_answer f b ≡ Ok a → IsWithinLimits a
  monadic_answer_within f b a h is =
      law b.shape (λ index. as_element (monadic_element f b index)) Number a h.shape
      (λ index lawful. as_element_in (monadic_element f b index) (monadic_of_in range f (element_at b index) (element_at_in b index h.numbers))) is

  answer_over_within : (f : ScalarFunction) (a b c : ArrayValue) (shape : Result (List ℕ) OpFault) → IfOk shape IsShape → IsWithinLimits a → IsWithinLimits b
      → answer_over f a b shape ≡ Ok c → IsWithinLimits c
  answer_over_within f a b c (Err fault) lawful h k is = absurd cc
  answer_over_within f a b c (Ok shape) lawful h k is =
      law shape (λ index. as_element (dyadic_number f a b shape index)) Number c lawful
      (λ index inside. as_element_in (dyadic_number f a b shape index)
      (dyadic_of_in range f (element_at a (source_index a.shape shape index)) (element_at b (source_index b.shape shape index))
      (element_at_in a (source_index a.shape shape index) h.numbers) (element_at_in b (source_index b.shape shape index) k.numbers))) is

  pub dyadic_answer_within : (f : ScalarFunction) (a b c : ArrayValue) → IsWithinLimits a → IsWithinLimits b → dyadic_answer f a b ≡ Ok c → IsWithinLimits c
  dyadic_answer_within f a b c h k is =
      answer_over_within f a b c (extended_shape a.shape b.shape) (extended_lawful a.shape b.shape h.shape k.shape) h k is
