-- Why a function has no value, apart from lack of memory. No contract of a public function cites this file.
use Rattle.std.specs.Prelude.{◌≡◌, Result, Ok, Err}
use Rattle.apl_array.specs.Array.{ArrayValue}
use Rattle.apl_answer.specs.declared.fault.OpFault.{OpFault}
use Rattle.apl_answer.specs.declared.fault.OpFault.TheVariants as fault
use Rattle.apl_print.specs.declared.reports.Report.{Report}
use Rattle.apl_eval.specs.Functions.{error_of}
use Rattle.apl_eval.specs.declared.functions.FunctionRefusal.{FunctionRefusal}
use Rattle.apl_eval.specs.declared.functions.FunctionRefusal.TheVariants.{Error, Memory}

abbrev pub refusal_of : OpFault → FunctionRefusal
refusal_of fault.Memory = Memory
refusal_of f = Error (error_of f)

-- the same value, or the same report; `Memory` is no report of a function
abbrev pub Answers : Result ArrayValue Report → Result ArrayValue FunctionRefusal → Type 0
Answers wanted (Ok array) = wanted ≡ Ok array
Answers wanted (Err (Error report)) = wanted ≡ Err report
Answers wanted (Err Memory) = Unit {0}
