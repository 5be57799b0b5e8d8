-- What a thief's try came to.
use Rattle.std.specs.Prelude.{◌≡◌}
use Rattle.apl_yard.specs.declared.rule.TakerView.{TakerView}
use Rattle.apl_yard.specs.declared.yard.Taken.{Taken}
use Rattle.apl_yard.specs.declared.yard.Taken.TheVariants.{Piece, Nothing, Busy}
use Rattle.apl_yard.specs.Rule.{IsStolen}

-- the piece is stolen, or nothing is taken
abbrev pub IsTry : TakerView → Taken → TakerView → Type 0
IsTry old (Piece piece) new = IsStolen old piece new
IsTry old Nothing new = new ≡ old
IsTry old Busy new = new ≡ old
