-- Which function a symbol is, of one argument or of two, without or with an axis.
use Rattle.std.specs.Prelude.{ℕ, Bool, true, false, ◌&&◌, Option, Some, None, option_map, if◌then◌else◌}
use Rattle.apl_array.specs.declared.function.ScalarFunction.{ScalarFunction}
use Rattle.apl_array.specs.Valences.{has_monadic, has_dyadic}
use Rattle.apl_tokens.specs.declared.token.Glyph.{Glyph}
use Rattle.apl_tokens.specs.declared.token.Glyph.TheVariants as glyph
use Rattle.apl_grammar.specs.declared.forms.DefaultAxis.{DefaultAxis}
use Rattle.apl_grammar.specs.declared.forms.DefaultAxis.TheVariants.{First, Last}
use Rattle.apl_grammar.specs.declared.forms.MonadicFunction.{MonadicFunction}
use Rattle.apl_grammar.specs.declared.forms.MonadicFunction.TheVariants as monadic
use Rattle.apl_grammar.specs.declared.forms.DyadicFunction.{DyadicFunction}
use Rattle.apl_grammar.specs.declared.forms.DyadicFunction.TheVariants as dyadic
use Rattle.apl_grammar.specs.declared.forms.AxisFunction.{AxisFunction}
use Rattle.apl_grammar.specs.declared.forms.AxisFunction.TheVariants.{Catenate, Rotate, Replicate, Expand}
use Rattle.apl_grammar.specs.declared.forms.Operator.{Operator}
use Rattle.apl_grammar.specs.declared.forms.Operator.TheVariants.{Reduction, Scan}
use Rattle.apl_grammar.specs.declared.forms.MonadicForm.{MonadicForm}
use Rattle.apl_grammar.specs.declared.forms.MonadicForm.TheVariants as one
use Rattle.apl_grammar.specs.declared.forms.DyadicForm.{DyadicForm}
use Rattle.apl_grammar.specs.declared.forms.DyadicForm.TheVariants as two

-- ---- from functions to symbols

-- the symbol of a function of one argument that takes no axis
abbrev pub monadic_glyph : MonadicFunction → Glyph
monadic_glyph (monadic.Scalar f) = glyph.Scalar f
monadic_glyph monadic.Shape = glyph.Rho
monadic_glyph monadic.Ravel = glyph.Comma
monadic_glyph monadic.Iota = glyph.Iota
monadic_glyph monadic.Transpose = glyph.Transpose
monadic_glyph monadic.GradeUp = glyph.GradeUp
monadic_glyph monadic.GradeDown = glyph.GradeDown

-- the symbol of a function of two arguments that takes no axis
abbrev pub dyadic_glyph : DyadicFunction → Glyph
dyadic_glyph (dyadic.Scalar f) = glyph.Scalar f
dyadic_glyph dyadic.Reshape = glyph.Rho
dyadic_glyph dyadic.IndexOf = glyph.Iota
dyadic_glyph dyadic.Member = glyph.Epsilon
dyadic_glyph dyadic.Take = glyph.UpArrow
dyadic_glyph dyadic.Drop = glyph.DownArrow
dyadic_glyph dyadic.TransposeBy = glyph.Transpose
dyadic_glyph dyadic.Decode = glyph.UpTack
dyadic_glyph dyadic.Encode = glyph.DownTack

-- the symbol of a reversal along the axis that it works along by itself
abbrev pub reversal_glyph : DefaultAxis → Glyph
reversal_glyph Last = glyph.CircleStile
reversal_glyph First = glyph.CircleBar

-- the slash of a replication or a reduction
abbrev pub slash_glyph : DefaultAxis → Glyph
slash_glyph Last = glyph.Slash
slash_glyph First = glyph.SlashBar

-- the backslash of an expansion or a scan
abbrev pub backslash_glyph : DefaultAxis → Glyph
backslash_glyph Last = glyph.Backslash
backslash_glyph First = glyph.BackslashBar

-- the symbol of a function of two arguments that takes an axis
abbrev pub axis_glyph : AxisFunction → Glyph
axis_glyph Catenate = glyph.Comma
axis_glyph (Rotate axis) = reversal_glyph axis
axis_glyph (Replicate axis) = slash_glyph axis
axis_glyph (Expand axis) = backslash_glyph axis

-- the symbol that makes a reduction or a scan
abbrev pub operator_glyph : Operator → Glyph
operator_glyph (Reduction axis) = slash_glyph axis
operator_glyph (Scan axis) = backslash_glyph axis

-- ---- from symbols to functions

-- the scalar function of two arguments that a symbol is, if it is one
abbrev pub dyadic_scalar : Glyph → Option ScalarFunction
dyadic_scalar (glyph.Scalar f) = if has_dyadic f then Some f else None
dyadic_scalar _ = None

-- the function of one argument that takes no axis, if the symbol is one
abbrev pub monadic_function : Glyph → Option MonadicFunction
monadic_function (glyph.Scalar f) = if has_monadic f then Some (monadic.Scalar f) else None
monadic_function glyph.Rho = Some monadic.Shape
monadic_function glyph.Comma = Some monadic.Ravel
monadic_function glyph.Iota = Some monadic.Iota
monadic_function glyph.Transpose = Some monadic.Transpose
monadic_function glyph.GradeUp = Some monadic.GradeUp
monadic_function glyph.GradeDown = Some monadic.GradeDown
monadic_function _ = None

-- the function of two arguments that takes no axis, if the symbol is one
abbrev pub dyadic_function : Glyph → Option DyadicFunction
dyadic_function (glyph.Scalar f) = if has_dyadic f then Some (dyadic.Scalar f) else None
dyadic_function glyph.Rho = Some dyadic.Reshape
dyadic_function glyph.Iota = Some dyadic.IndexOf
dyadic_function glyph.Epsilon = Some dyadic.Member
dyadic_function glyph.UpArrow = Some dyadic.Take
dyadic_function glyph.DownArrow = Some dyadic.Drop
dyadic_function glyph.Transpose = Some dyadic.TransposeBy
dyadic_function glyph.UpTack = Some dyadic.Decode
dyadic_function glyph.DownTack = Some dyadic.Encode
dyadic_function _ = None

-- the axis along which a symbol reverses by itself, if it reverses
abbrev pub reversal : Glyph → Option DefaultAxis
reversal glyph.CircleStile = Some Last
reversal glyph.CircleBar = Some First
reversal _ = None

-- the function of two arguments that takes an axis, if the symbol is one
abbrev pub axis_function : Glyph → Option AxisFunction
axis_function glyph.Comma = Some Catenate
axis_function glyph.CircleStile = Some (Rotate Last)
axis_function glyph.CircleBar = Some (Rotate First)
axis_function glyph.Slash = Some (Replicate Last)
axis_function glyph.SlashBar = Some (Replicate First)
axis_function glyph.Backslash = Some (Expand Last)
axis_function glyph.BackslashBar = Some (Expand First)
axis_function _ = None

-- the first of two, if there is one, and else the second
abbrev pub or_else : {A : Type 0} → Option A → Option A → Option A
or_else (Some x) other = Some x
or_else None other = other

-- what takes no axis, where none is given
abbrev pub unless_axis : {A : Type 0} → (has_axis : Bool) → Option A → Option A
unless_axis false x = x
unless_axis true x = None

-- the symbol as a function of one argument, without or with an axis, if it is one
abbrev pub monadic_form : (column : ℕ) → Glyph → (has_axis : Bool) → Option MonadicForm
monadic_form column g has_axis =
    or_else (option_map (one.Reverse column) (reversal g)) (unless_axis has_axis (option_map (one.Plain column) (monadic_function g)))

-- the symbol as a function of two arguments, without or with an axis, if it is one
abbrev pub dyadic_form : (column : ℕ) → Glyph → (has_axis : Bool) → Option DyadicForm
dyadic_form column g has_axis =
    or_else (option_map (two.Along column) (axis_function g)) (unless_axis has_axis (option_map (two.Plain column) (dyadic_function g)))

-- the function of two arguments of the same symbol, without or with an axis, if there is one
abbrev pub dyadic_counterpart : MonadicForm → (has_axis : Bool) → Option DyadicForm
dyadic_counterpart (one.Plain column f) has_axis = dyadic_form column (monadic_glyph f) has_axis
dyadic_counterpart (one.Reverse column axis) has_axis = dyadic_form column (reversal_glyph axis) has_axis
dyadic_counterpart (one.Reduce column f slash_column operator) has_axis = None

-- what the slash of a replication or an expansion makes of a scalar function on its left
abbrev pub operator_of : AxisFunction → Option Operator
operator_of (Replicate axis) = Some (Reduction axis)
operator_of (Expand axis) = Some (Scan axis)
operator_of _ = None

-- a scalar function on the left of a slash
abbrev pub reduced_by : (column : ℕ) → Option ScalarFunction → (slash_column : ℕ) → Option Operator → Option MonadicForm
reduced_by column (Some f) slash_column (Some operator) = Some (one.Reduce column f slash_column operator)
reduced_by column _ slash_column _ = None

-- the reduction or the scan by a symbol on the left of a slash
abbrev pub reduced : (column : ℕ) → Glyph → DyadicForm → Option MonadicForm
reduced column g (two.Along slash_column slash) = reduced_by column (dyadic_scalar g) slash_column (operator_of slash)
reduced column g _ = None

-- ---- the functions of a tree

-- a scalar function is one of one argument
abbrev pub is_monadic : MonadicFunction → Bool
is_monadic (monadic.Scalar f) = has_monadic f
is_monadic _ = true

-- a scalar function is one of two arguments
abbrev pub is_dyadic : DyadicFunction → Bool
is_dyadic (dyadic.Scalar f) = has_dyadic f
is_dyadic _ = true

-- each scalar function has its valence, and what takes no axis has none
abbrev pub may_be_monadic : MonadicForm → (has_axis : Bool) → Bool
may_be_monadic (one.Plain column f) false = is_monadic f
may_be_monadic (one.Plain column f) true = false
may_be_monadic (one.Reverse column axis) has_axis = true
may_be_monadic (one.Reduce column f slash_column operator) has_axis = has_dyadic f

-- the same for a function of two arguments
abbrev pub may_be_dyadic : DyadicForm → (has_axis : Bool) → Bool
may_be_dyadic (two.Plain column f) false = is_dyadic f
may_be_dyadic (two.Plain column f) true = false
may_be_dyadic (two.Along column f) has_axis = true
may_be_dyadic (two.Inner left_column f dot right_column g) false = has_dyadic f && has_dyadic g
may_be_dyadic (two.Inner left_column f dot right_column g) true = false
may_be_dyadic (two.Outer jot dot column f) false = has_dyadic f
may_be_dyadic (two.Outer jot dot column f) true = false
