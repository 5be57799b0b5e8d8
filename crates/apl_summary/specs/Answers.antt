-- Items that are folded by a function with two values, by two answers. Their last item meets what comes in, and gives 0, 1 or a fault.
-- So it is enough to know what the items to its left answer for 0 and for 1.
use Rattle.std.specs.Prelude.{ℕ, ◌+◌, Bool, true, false, ℤ, Result, Ok, Err, if◌then◌else◌}
use Rattle.apl_array.specs.declared.function.ScalarFunction.{ScalarFunction}
use Rattle.apl_array.specs.declared.function.ScalarFunction.TheVariants.{And, Or, Nand, Nor, Less, LessOrEqual, Equal, GreaterOrEqual, Greater, NotEqual}
use Rattle.apl_pool.specs.declared.kernel.Fault.{Fault}
use Rattle.apl_scalar.specs.Scalar.{bit, is_one, dyadic_numbers}
use Rattle.apl_summary.specs.declared.answers.Answers.{Answers}

-- the logical functions and the comparisons, whose results are 0 and 1 alone
abbrev pub is_two_valued : ScalarFunction → Bool
is_two_valued And = true
is_two_valued Or = true
is_two_valued Nand = true
is_two_valued Nor = true
is_two_valued Less = true
is_two_valued LessOrEqual = true
is_two_valued Equal = true
is_two_valued GreaterOrEqual = true
is_two_valued Greater = true
is_two_valued NotEqual = true
is_two_valued _ = false

-- 0 or 1, or the fault
abbrev pub as_number : Result Bool Fault → Result ℤ Fault
as_number (Ok b) = Ok (bit b)
as_number (Err fault) = Err fault

-- answers with these parts
abbrev pub answers : ℕ → ℤ → Result Bool Fault → Result Bool Fault → Answers
answers count last for_zero for_one = record { count = count; last = last; for_zero = for_zero; for_one = for_one }

-- to the left of the only item is no other, so what comes in is handed on
abbrev pub answers_of_one : ℤ → Answers
answers_of_one x = answers 1 x (Ok false) (Ok true)

-- what the items to the left of the last one answer for its result
abbrev pub left_answer : Answers → Result ℤ Fault → Result Bool Fault
left_answer a (Ok z) = if is_one z then a.for_one else a.for_zero
left_answer a (Err fault) = Err fault

-- what all items answer
abbrev pub whole_answer : ScalarFunction → Answers → ℤ → Result Bool Fault
whole_answer f a right = left_answer a (dyadic_numbers f a.last right)

-- what the items do to a number that comes in
abbrev pub two_valued_outcome : ScalarFunction → Answers → ℤ → Result ℤ Fault
two_valued_outcome f a right = as_number (whole_answer f a right)

-- what all items answer for the answer of those on their right
abbrev pub answer_to : ScalarFunction → Answers → Result Bool Fault → Result Bool Fault
answer_to f a (Ok b) = whole_answer f a (bit b)
answer_to f a (Err fault) = Err fault

-- the answers of the left and the right items together
abbrev pub answers_of_both : ScalarFunction → Answers → Answers → Answers
answers_of_both f a b = answers (a.count + b.count) b.last (answer_to f a b.for_zero) (answer_to f a b.for_one)
