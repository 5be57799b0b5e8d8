-- Countdowns to the call that is to fail.
use Rattle.std.specs.Prelude.{ℕ, ◌-◌, Option, Some, None, nat_lt, if◌then◌else◌}

-- how many calls there are up to the one that fails, after a call
abbrev pub after_call : Option ℕ → Option ℕ
after_call None = None
after_call (Some calls) = if nat_lt 0 calls then Some (calls - 1) else None
