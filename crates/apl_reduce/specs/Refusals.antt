-- A result that is one refusal, exactly where something holds, and else a value.
use Rattle.std.specs.Prelude.{◌≡◌, ◌⊎◌, Result, Ok, Err}
use Rattle.apl_array.specs.Array.{ArrayValue}
use Rattle.apl_answer.specs.declared.fault.OpFault.{OpFault}
use Rattle.apl_answer.specs.declared.fault.OpFault.TheVariants.{Limit}

-- either it holds and the result is the refusal, or it doesn't and the result is the value
abbrev pub IsRefusedOr : {A F : Type 0} → F → Type 0 → A → Result A F → Type 0
IsRefusedOr refusal Refused value result = (Refused × (result ≡ Err refusal)) ⊎ ((Refused → ⊥) × (result ≡ Ok value))

-- either it holds and the result is `Limit`, or it does not and the result is this array
abbrev pub IsLimitOr : Type 0 → ArrayValue → Result ArrayValue OpFault → Type 0
IsLimitOr Refused a result = IsRefusedOr Limit Refused a result
