-- How the program ends after a run.
use Rattle.std.specs.Prelude.{ℕ, List, [], codes, Result, Ok, Err}
use Rattle.apl_session.specs.declared.interpreter.RunFault.{RunFault}
use Rattle.apl_session.specs.declared.interpreter.RunFault.TheVariants.{Read, Write, Memory}

-- the exit status after a run
abbrev pub ending_status : {T : Type 0} → Result T RunFault → ℕ
ending_status (Ok value) = 0
ending_status (Err fault) = 1

-- the line on standard error
abbrev pub ending_message : {T : Type 0} → Result T RunFault → List ℕ
ending_message (Ok value) = []
ending_message (Err Read) = codes "aplcalc: read failed"
ending_message (Err Write) = codes "aplcalc: write failed"
ending_message (Err Memory) = codes "aplcalc: no memory"
