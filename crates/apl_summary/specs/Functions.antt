-- The scalar functions whose folds have summaries.
use Rattle.std.specs.Prelude.{Bool, true}
use Rattle.apl_array.specs.declared.function.ScalarFunction.{ScalarFunction}
use Rattle.apl_array.specs.declared.function.ScalarFunction.TheVariants.{Plus, Minus, Times, Floor, Ceiling}
use Rattle.apl_summary.specs.Answers.{is_two_valued}

-- `+ - × ⌊ ⌈`, the logical functions and the comparisons
abbrev pub has_summary : ScalarFunction → Bool
has_summary Plus = true
has_summary Minus = true
has_summary Times = true
has_summary Floor = true
has_summary Ceiling = true
has_summary f = is_two_valued f
