-- A row that has an answer has passed its checks.
use Rattle.std.proofs.Common.{◌≡◌, List, [], ◌∷◌, Result, Ok, ⊎_elim}
use Rattle.std.specs.Prelude.{ℕ, IfOk}
use Rattle.std.proofs.lemmas.Bool.{cases_Bool}
use Rattle.apl_array.specs.Shape.{IsShape, IsIndexOf}
use Rattle.apl_array.specs.Array.{ArrayValue}
use Rattle.apl_array.specs.Range.{IsElementInRange}
use Rattle.apl_array.specs.Limits.{IsWithinLimits}
use Rattle.apl_answer.specs.declared.fault.OpFault.{OpFault}
use Rattle.apl_answer.specs.Pointwise.{answer_of}
use Rattle.apl_answer.specs.Rows.{Check, Row, HavePassed, first_failure_or, result_of}
use Rattle.apl_answer.proofs.Answers.{PlacesLaw, within_limits_from_answer}

passed_from_answer : (checks : List Check) (answer : Result ArrayValue OpFault) (a : ArrayValue) → first_failure_or checks answer ≡ Ok a → HavePassed checks × (answer ≡ Ok a)
passed_from_answer [] answer a is = (tt, is)
passed_from_answer (check ∷ checks) answer a is =
    ⊎_elim
    (λ yes.
    let rest = passed_from_answer checks answer a (rw yes at is) in
    ((yes, rest.0), rest.1))
    (λ no. absurd (let fails = rw no at is in cc))
    (cases_Bool check.0)

pub within_limits_from_row : PlacesLaw → (row : Row) (a : ArrayValue) → (HavePassed row.checks → IsShape row.shape)
    → (HavePassed row.checks → (index : List ℕ) → IsIndexOf row.shape index → IfOk (row.outcome index) IsElementInRange)
    → result_of row ≡ Ok a → IsWithinLimits a
within_limits_from_row places row a lawful each is =
    let parts = passed_from_answer row.checks (answer_of row.shape row.outcome row.kind) a is in
    within_limits_from_answer places row.shape row.outcome row.kind a (lawful parts.0) (each parts.0) parts.1
