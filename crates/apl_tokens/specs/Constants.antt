-- The limits of constants.
use Rattle.std.specs.Prelude.{List, All}
use Rattle.apl_array.specs.Limits.{IsWithinLimits}
use Rattle.apl_tokens.specs.declared.token.Token.{Token}
use Rattle.apl_tokens.specs.declared.token.TokenKind.{TokenKind}
use Rattle.apl_tokens.specs.declared.token.TokenKind.TheVariants.{Constant}

-- if it is a constant, its array is within all limits
abbrev pub IsKindWithinLimits : TokenKind → Type 0
IsKindWithinLimits (Constant value) = IsWithinLimits value
IsKindWithinLimits _ = Unit {0}

-- all constants among the tokens are within all limits
abbrev pub HasConstantsWithinLimits : List Token → Type 0
HasConstantsWithinLimits tokens = All (λ t. IsKindWithinLimits t.kind) tokens
