-- Functions with two values: what the answers of one item do, and what those of both do.
use Rattle.std.proofs.Common.{◌≡◌, Bool, true, false, true≢false, ℤ, Result, Ok, Err, refl, sym, subst, ◌∙◌, arith, if◌then◌else◌}
use Rattle.std.proofs.lemmas.Int.{ints}
use Rattle.apl_array.specs.declared.function.ScalarFunction.{ScalarFunction}
use Rattle.apl_array.specs.declared.function.ScalarFunction.TheVariants.{Plus, Minus, Times, Divide, Stile, Star, Bang, Floor, Ceiling, And, Or, Nand, Nor, Less, LessOrEqual, Equal, GreaterOrEqual, Greater, NotEqual, Tilde}
use Rattle.apl_pool.specs.declared.kernel.Fault.{Fault}
use Rattle.apl_pool.specs.declared.kernel.Fault.TheVariants.{Domain}
use Rattle.apl_pool.specs.Summaries.{IsI64, and_then}
use Rattle.apl_scalar.specs.Scalar.{bit, is_one, dyadic_numbers}
use Rattle.apl_summary.specs.declared.answers.Answers.{Answers}
use Rattle.apl_summary.specs.Answers.{is_two_valued, as_number, answers_of_one, answers_of_both, left_answer, answer_to, two_valued_outcome}

bit_in_range : (b : Bool) → IsI64 (bit b)
bit_in_range true = (omega (arith, ints), omega (arith, ints))
bit_in_range false = (omega (arith, ints), omega (arith, ints))

number_in_range : (o : Result Bool Fault) (z : ℤ) → as_number o ≡ Ok z → IsI64 z
number_in_range (Ok b) z e = let same : bit b ≡ z = cc in subst IsI64 same (bit_in_range b)
number_in_range (Err fault) z e = absurd (cc)

pub two_valued_in_range : (f : ScalarFunction) (a : Answers) (right z : ℤ) → two_valued_outcome f a right ≡ Ok z → IsI64 z
two_valued_in_range f a right z e = number_in_range (left_answer a (dyadic_numbers f a.last right)) z e

-- one item hands on 0, 1 and faults
abbrev HandsOn : ℤ → Result ℤ Fault → Type 0
HandsOn x o = as_number (left_answer (answers_of_one x) o) ≡ o

hands_on_bit : (x : ℤ) (t : Bool) → HandsOn x (Ok (bit t))
hands_on_bit x true = refl
hands_on_bit x false = refl

hands_on_logical : (x : ℤ) (both t : Bool) → HandsOn x (if both then Ok (bit t) else Err Domain)
hands_on_logical x true t = hands_on_bit x t
hands_on_logical x false t = refl

pub one_is : (f : ScalarFunction) (x right : ℤ) → is_two_valued f ≡ true → two_valued_outcome f (answers_of_one x) right ≡ dyadic_numbers f x right
one_is And x right two = hands_on_logical x _ _
one_is Or x right two = hands_on_logical x _ _
one_is Nand x right two = hands_on_logical x _ _
one_is Nor x right two = hands_on_logical x _ _
one_is Less x right two = hands_on_bit x _
one_is LessOrEqual x right two = hands_on_bit x _
one_is Equal x right two = hands_on_bit x _
one_is GreaterOrEqual x right two = hands_on_bit x _
one_is Greater x right two = hands_on_bit x _
one_is NotEqual x right two = hands_on_bit x _
one_is Plus x right two = absurd (true≢false (sym two))
one_is Minus x right two = absurd (true≢false (sym two))
one_is Times x right two = absurd (true≢false (sym two))
one_is Divide x right two = absurd (true≢false (sym two))
one_is Stile x right two = absurd (true≢false (sym two))
one_is Star x right two = absurd (true≢false (sym two))
one_is Bang x right two = absurd (true≢false (sym two))
one_is Floor x right two = absurd (true≢false (sym two))
one_is Ceiling x right two = absurd (true≢false (sym two))
one_is Tilde x right two = absurd (true≢false (sym two))

onward : (f : ScalarFunction) (a : Answers) (o : Result Bool Fault) → as_number (answer_to f a o) ≡ and_then (as_number o) (two_valued_outcome f a)
onward f a (Ok b) = refl
onward f a (Err fault) = refl

by_answer : (f : ScalarFunction) (a b : Answers) (t : Bool) → as_number (if t then answer_to f a b.for_one else answer_to f a b.for_zero) ≡ and_then (as_number (if t then b.for_one else b.for_zero)) (two_valued_outcome f a)
by_answer f a b true = onward f a b.for_one
by_answer f a b false = onward f a b.for_zero

by_result : (f : ScalarFunction) (a b : Answers) (o : Result ℤ Fault) → as_number (left_answer (answers_of_both f a b) o) ≡ and_then (as_number (left_answer b o)) (two_valued_outcome f a)
by_result f a b (Ok z) = by_answer f a b (is_one z)
by_result f a b (Err fault) = refl

-- the left items' outcome on what the right ones give
pub joined_outcome : (f : ScalarFunction) (a b : Answers) (right : ℤ) → two_valued_outcome f (answers_of_both f a b) right ≡ and_then (two_valued_outcome f b right) (two_valued_outcome f a)
joined_outcome f a b right = by_result f a b (dyadic_numbers f b.last right)

-- what one item answers is 0 or 1
pub two_valued_is_bit : (f : ScalarFunction) (x right z : ℤ) → is_two_valued f ≡ true → dyadic_numbers f x right ≡ Ok z → (b : Bool) × (z ≡ bit b)
two_valued_is_bit f x right z two is = found (left_answer (answers_of_one x) (dyadic_numbers f x right)) (one_is f x right two ∙ is) where
  found : (o : Result Bool Fault) → as_number o ≡ Ok z → (b : Bool) × (z ≡ bit b)
  found (Ok b) e = (b, cc)
  found (Err fault) e = absurd (cc)
