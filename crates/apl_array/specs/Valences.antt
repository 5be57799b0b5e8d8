-- Of how many arguments a scalar function is.
use Rattle.std.specs.Prelude.{Bool, true, false}
use Rattle.apl_array.specs.declared.function.ScalarFunction.{ScalarFunction}
use Rattle.apl_array.specs.declared.function.ScalarFunction.TheVariants.{Plus, Minus, Times, Divide, Stile, Bang, Floor, Ceiling, Tilde}

-- whether it is a function of one argument
abbrev pub has_monadic : ScalarFunction → Bool
has_monadic Plus = true
has_monadic Minus = true
has_monadic Times = true
has_monadic Divide = true
has_monadic Stile = true
has_monadic Bang = true
has_monadic Floor = true
has_monadic Ceiling = true
has_monadic Tilde = true
has_monadic _ = false

-- whether it is a function of two
abbrev pub has_dyadic : ScalarFunction → Bool
has_dyadic Tilde = false
has_dyadic _ = true
