-- What a function of arrays answers, as a row of a table: checks in order, then shape, kind and elements of the result.
use Rattle.std.specs.Prelude.{◌≡◌, ℕ, List, [], ◌∷◌, Bool, true, Result, Ok, Err, if◌then◌else◌}
use Rattle.apl_array.specs.declared.array.Elem.{Elem}
use Rattle.apl_array.specs.declared.array.Kind.{Kind}
use Rattle.apl_array.specs.Shape.{IsShape}
use Rattle.apl_array.specs.Array.{ArrayValue}
use Rattle.apl_pool.specs.declared.kernel.Fault.{Fault}
use Rattle.apl_answer.specs.declared.fault.OpFault.{OpFault}
use Rattle.apl_answer.specs.Pointwise.{answer_of, IsAnswerOf, HaveElementsInRange}

-- a test, and the refusal if it fails
abbrev pub Check : Type 0
Check = Bool × OpFault

-- the checks in order, and the shape, the kind and the outcome at each index list if none fails
pub record Row : Type 0 where
  pub checks : List Check
  pub shape : List ℕ
  pub kind : Kind
  pub outcome : List ℕ → Result Elem Fault

-- a row in which no place has a fault
abbrev pub array_row : List Check → List ℕ → Kind → (List ℕ → Elem) → Row
array_row checks shape kind element = record { checks = checks; shape = shape; kind = kind; outcome = λ index. Ok (element index) }

-- none of the checks fails
abbrev pub HavePassed : List Check → Type 0
HavePassed [] = Unit {0}
HavePassed (check ∷ checks) = (check.0 ≡ true) × HavePassed checks

-- the refusal of the first check that fails, else the answer
abbrev pub first_failure_or : List Check → Result ArrayValue OpFault → Result ArrayValue OpFault
first_failure_or [] answer = answer
first_failure_or (check ∷ checks) answer = if check.0 then first_failure_or checks answer else Err check.1

-- the first check that fails, or else the answer of the row's outcomes
abbrev pub result_of : Row → Result ArrayValue OpFault
result_of row = first_failure_or row.checks (answer_of row.shape row.outcome row.kind)

-- the row has a lawful shape if its checks have passed
abbrev pub HasShape : Row → Type 0
HasShape row = HavePassed row.checks → IsShape row.shape

-- its elements are in the range if its checks have passed
abbrev pub HasElementsInRange : Row → Type 0
HasElementsInRange row = HavePassed row.checks → HaveElementsInRange row.shape row.outcome

-- the row's result, or `Memory` in its place
abbrev pub Answers : Row → Result ArrayValue OpFault → Type 0
Answers row result = IsAnswerOf (result_of row) result
