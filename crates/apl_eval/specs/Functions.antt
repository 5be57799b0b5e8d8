-- Functions of arrays: the column of their errors, and their results.
use Rattle.std.specs.Prelude.{ℕ, ℤ, List, Option, Some, None, Result, Ok, Err}
use Rattle.apl_array.specs.declared.axis.Origin.{Origin}
use Rattle.apl_array.specs.declared.axis.Axis.{Axis}
use Rattle.apl_array.specs.declared.axis.Axis.TheVariants.{First, Last, At}
use Rattle.apl_array.specs.Array.{ArrayValue}
use Rattle.apl_array.specs.declared.function.ScalarFunction.{ScalarFunction}
use Rattle.apl_grammar.specs.declared.forms.DefaultAxis.{DefaultAxis}
use Rattle.apl_grammar.specs.declared.forms.DefaultAxis.TheVariants as default
use Rattle.apl_grammar.specs.declared.forms.MonadicFunction.{MonadicFunction}
use Rattle.apl_grammar.specs.declared.forms.MonadicFunction.TheVariants as monadic
use Rattle.apl_grammar.specs.declared.forms.DyadicFunction.{DyadicFunction}
use Rattle.apl_grammar.specs.declared.forms.DyadicFunction.TheVariants as dyadic
use Rattle.apl_grammar.specs.declared.forms.AxisFunction.{AxisFunction}
use Rattle.apl_grammar.specs.declared.forms.AxisFunction.TheVariants.{Catenate, Rotate, Replicate, Expand}
use Rattle.apl_grammar.specs.declared.forms.Operator.{Operator}
use Rattle.apl_grammar.specs.declared.forms.Operator.TheVariants.{Reduction, Scan}
use Rattle.apl_grammar.specs.declared.forms.MonadicForm.{MonadicForm}
use Rattle.apl_grammar.specs.declared.forms.MonadicForm.TheVariants as one
use Rattle.apl_grammar.specs.declared.forms.DyadicForm.{DyadicForm}
use Rattle.apl_grammar.specs.declared.forms.DyadicForm.TheVariants as two
use Rattle.apl_answer.specs.declared.fault.OpFault.{OpFault}
use Rattle.apl_answer.specs.declared.fault.OpFault.TheVariants as fault
use Rattle.apl_answer.specs.Rows as rows
use Rattle.apl_scalar.specs.Monadic.{monadic_answer}
use Rattle.apl_scalar.specs.Dyadic.{dyadic_answer}
use Rattle.apl_search.specs.Searching.{index_of_row, member_row}
use Rattle.apl_search.specs.Ordering.{grade_up_row, grade_down_row}
use Rattle.apl_struct.specs.Axes.{axis_number_of}
use Rattle.apl_struct.specs.Building.{shape_of_row, reshape_row, ravel_row, iota_row}
use Rattle.apl_struct.specs.Joining.{catenate_row}
use Rattle.apl_struct.specs.Taking.{take_row, drop_row}
use Rattle.apl_struct.specs.Rearranging.{reverse_row, rotate_row, transpose_row, transpose_by_row}
use Rattle.apl_struct.specs.Compressing.{replicate_row, expand_row}
use Rattle.apl_struct.specs.Indexing.{select_row, replace_row}
use Rattle.apl_reduce.specs.Reducing.{reduce_row}
use Rattle.apl_scan.specs.Scanning.{scan_row}
use Rattle.apl_reduce.specs.Products.{outer_row, inner_row}
use Rattle.apl_reduce.specs.Decoding.{decode_row}
use Rattle.apl_reduce.specs.Encoding.{encode_row}
use Rattle.apl_print.specs.declared.reports.Report.{Report}
use Rattle.apl_print.specs.declared.reports.Report.TheVariants as report

-- the column of an error: at the symbol, or at the slash of a reduction or a scan
abbrev pub monadic_column : MonadicForm → ℕ
monadic_column (one.Plain column f) = column
monadic_column (one.Reverse column axis) = column
monadic_column (one.Reduce column f slash_column operator) = slash_column

-- the column of an error: at the symbol, or at the dot of a product
abbrev pub dyadic_column : DyadicForm → ℕ
dyadic_column (two.Plain column f) = column
dyadic_column (two.Along column f) = column
dyadic_column (two.Inner left_column f dot right_column g) = dot
dyadic_column (two.Outer jot dot column f) = dot

-- the report of a fault. No function answers that memory ran out, which would be Limit
abbrev pub error_of : OpFault → Report
error_of fault.Rank = report.Rank
error_of fault.Length = report.Length
error_of fault.Index = report.Index
error_of fault.Domain = report.Domain
error_of fault.Limit = report.Limit
error_of fault.Memory = report.Limit

-- the result or the report that an answer is
abbrev pub result_of : (answer : Result ArrayValue OpFault) → Result ArrayValue Report
result_of (Ok array) = Ok array
result_of (Err fault) = Err (error_of fault)

-- the result that a row of the tables says
abbrev pub result_by : rows.Row → Result ArrayValue Report
result_by row = result_of (rows.result_of row)

-- ---- axes

-- the axis that a symbol works along where no axis is given
abbrev pub default_axis : DefaultAxis → Axis
default_axis default.First = First
default_axis default.Last = Last

-- the axis of a function of two arguments where none is given
abbrev pub function_axis : AxisFunction → Axis
function_axis Catenate = Last
function_axis (Rotate axis) = default_axis axis
function_axis (Replicate axis) = default_axis axis
function_axis (Expand axis) = default_axis axis

-- the axis of a reduction or a scan where none is given
abbrev pub operator_axis : Operator → Axis
operator_axis (Reduction axis) = default_axis axis
operator_axis (Scan axis) = default_axis axis

-- the result along the axis of that number, if it is one; a function judges first whether it has that axis
abbrev pub along_number : Origin → (number : Result ℤ OpFault) → (Axis → Result ArrayValue Report) → Result ArrayValue Report
along_number origin (Ok number) result = result (At number origin)
along_number origin (Err fault) result = Err (error_of fault)

-- the result along the given axis, and along the default where none is given
abbrev pub along : Origin → (default : Axis) → (axis : Option ArrayValue) → (Axis → Result ArrayValue Report) → Result ArrayValue Report
along origin default None result = result default
along origin default (Some axis) result = along_number origin (axis_number_of axis) result

-- ---- functions of one argument

-- the answer of what takes no axis
abbrev pub monadic_plain : Origin → MonadicFunction → (right : ArrayValue) → Result ArrayValue OpFault
monadic_plain origin (monadic.Scalar f) b = monadic_answer f b
monadic_plain origin monadic.Shape b = rows.result_of (shape_of_row b)
monadic_plain origin monadic.Ravel b = rows.result_of (ravel_row b)
monadic_plain origin monadic.Iota b = rows.result_of (iota_row b origin)
monadic_plain origin monadic.Transpose b = rows.result_of (transpose_row b)
monadic_plain origin monadic.GradeUp b = rows.result_of (grade_up_row b origin)
monadic_plain origin monadic.GradeDown b = rows.result_of (grade_down_row b origin)

-- reversal along an axis
unfoldable pub reversed_along : Axis → (right : ArrayValue) → Result ArrayValue Report
reversed_along axis b = result_by (reverse_row b axis)

-- a reduction or a scan along an axis
abbrev pub reduced_along : Operator → ScalarFunction → Axis → (right : ArrayValue) → Result ArrayValue Report
reduced_along (Reduction default) f axis b = result_by (reduce_row f b axis)
reduced_along (Scan default) f axis b = result_by (scan_row f b axis)

-- of one argument, perhaps along an axis; a tree gives none to what takes none
unfoldable pub monadic_result : Origin → MonadicForm → (axis : Option ArrayValue) → (right : ArrayValue) → Result ArrayValue Report
monadic_result origin (one.Plain column f) axis right = result_of (monadic_plain origin f right)
monadic_result origin (one.Reverse column default) axis right = along origin (default_axis default) axis (λ axis. reversed_along axis right)
monadic_result origin (one.Reduce column f slash_column operator) axis right = along origin (operator_axis operator) axis (λ axis. reduced_along operator f axis right)

-- ---- functions of two arguments

-- the answer of what takes no axis
abbrev pub dyadic_plain : Origin → DyadicFunction → (left right : ArrayValue) → Result ArrayValue OpFault
dyadic_plain origin (dyadic.Scalar f) a b = dyadic_answer f a b
dyadic_plain origin dyadic.Reshape a b = rows.result_of (reshape_row a b)
dyadic_plain origin dyadic.IndexOf a b = rows.result_of (index_of_row a b origin)
dyadic_plain origin dyadic.Member a b = rows.result_of (member_row a b)
dyadic_plain origin dyadic.Take a b = rows.result_of (take_row a b)
dyadic_plain origin dyadic.Drop a b = rows.result_of (drop_row a b)
dyadic_plain origin dyadic.TransposeBy a b = rows.result_of (transpose_by_row a b origin)
dyadic_plain origin dyadic.Decode a b = rows.result_of (decode_row a b)
dyadic_plain origin dyadic.Encode a b = rows.result_of (encode_row a b)

-- the answer along an axis
abbrev pub dyadic_along : AxisFunction → Axis → (left right : ArrayValue) → Result ArrayValue OpFault
dyadic_along Catenate axis a b = rows.result_of (catenate_row a b axis)
dyadic_along (Rotate default) axis a b = rows.result_of (rotate_row a b axis)
dyadic_along (Replicate default) axis a b = rows.result_of (replicate_row a b axis)
dyadic_along (Expand default) axis a b = rows.result_of (expand_row a b axis)

-- of two arguments, perhaps along an axis; a tree gives none to what takes none
unfoldable pub dyadic_result : Origin → DyadicForm → (axis : Option ArrayValue) → (left right : ArrayValue) → Result ArrayValue Report
dyadic_result origin (two.Plain column f) axis left right = result_of (dyadic_plain origin f left right)
dyadic_result origin (two.Along column f) axis left right = along origin (function_axis f) axis (λ axis. result_of (dyadic_along f axis left right))
dyadic_result origin (two.Inner left_column f dot right_column g) axis left right = result_by (inner_row f g left right)
dyadic_result origin (two.Outer jot dot column f) axis left right = result_by (outer_row f left right)

-- ---- indexing

-- the elements of an array that the slots choose, of which an empty one chooses all
unfoldable pub index_result : Origin → (array : ArrayValue) → (slots : List (Option ArrayValue)) → Result ArrayValue Report
index_result origin array slots = result_by (select_row array slots origin)

-- a name's array, if it has one, with the value in the place of the elements that the slots choose
unfoldable pub assign_at_result : Origin → (array : Option ArrayValue) → (slots : List (Option ArrayValue)) → (value : ArrayValue) → Result ArrayValue Report
assign_at_result origin (Some array) slots value = result_by (replace_row array slots value origin)
assign_at_result origin None slots value = Err report.Value
