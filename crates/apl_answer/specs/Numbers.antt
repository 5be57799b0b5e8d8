-- Numbers that are lent, or made of truth values.
use Rattle.std.specs.Prelude.{ℤ, List}
use Rattle.apl_answer.specs.declared.numbers.Numbers.{Numbers}
use Rattle.apl_answer.specs.declared.numbers.Numbers.TheVariants.{Held, Made}

-- the numbers in row order
abbrev pub number_list : Numbers → List ℤ
number_list (Held numbers) = numbers.now
number_list (Made numbers) = numbers.items
