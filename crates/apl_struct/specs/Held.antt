-- The numbers of an argument as they are held. No contract of a public function cites this file.
use Rattle.std.specs.Prelude.{ℤ, List}
use Rattle.apl_answer.specs.Numbers.{number_list}
use Rattle.apl_struct.specs.declared.arguments.HeldNumbers.{HeldNumbers}
use Rattle.apl_struct.specs.declared.arguments.HeldNumbers.TheVariants.{Narrow, Wide}

-- numbers in row order, held in 32 bits or in 64
abbrev pub held_list : HeldNumbers → List ℤ
held_list (Narrow numbers) = numbers.now
held_list (Wide numbers) = number_list numbers
