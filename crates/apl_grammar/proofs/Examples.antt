-- Worked examples: each line of tokens with the column of its caret, or with its tree.
use Rattle.std.proofs.Common.{◌≡◌, ◌∷◌, [], List, Some, refl, ap}
use Rattle.std.specs.Prelude.{ℕ, pos}
use Rattle.apl_tokens.specs.declared.token.Token.{Token}
use Rattle.apl_tokens.specs.declared.token.TokenKind.TheVariants as kind
use Rattle.apl_array.specs.declared.function.ScalarFunction.TheVariants.{Plus, Less}
use Rattle.apl_tokens.specs.declared.token.Glyph.TheVariants.{Scalar, Slash, Comma}
use Rattle.apl_grammar.specs.declared.forms.AxisFunction.TheVariants.{Catenate}
use Rattle.apl_grammar.specs.declared.forms.MonadicFunction.TheVariants as of_one
use Rattle.apl_grammar.specs.declared.forms.DyadicFunction.TheVariants as of_two
use Rattle.apl_grammar.specs.declared.forms.MonadicForm.TheVariants as one
use Rattle.apl_grammar.specs.declared.forms.DyadicForm.TheVariants as two
use Rattle.apl_array.specs.Array.{number_array}
use Rattle.apl_grammar.specs.Tree.{Expr, value, dyadic, monadic, constant, name, index, last, given, none, along, token_at}
use Rattle.apl_grammar.specs.Caret.{IsCaret}
use Rattle.apl_grammar.proofs.Partial.{Frame, Level, expression, Config, run}
use Rattle.apl_grammar.proofs.Viable.{stuck-IsCaret, early-IsCaret}

num : ℕ → ℕ → Token
num c n = token_at c (kind.Constant (number_array [] (pos n ∷ [])))

nam : ℕ → ℕ → Token
nam c n = token_at c (kind.Name (n ∷ []))

-- `3+` has its caret at column 1
row_plus : IsCaret (num 0 3 ∷ token_at 1 (kind.Function (Scalar Plus)) ∷ []) 1
unfolding num
row_plus = (stuck-IsCaret (num 0 3 ∷ []) (token_at 1 (kind.Function (Scalar Plus))) [] _ refl refl).0

-- `(1+2` has its caret at column 0
row_open : IsCaret (token_at 0 kind.OpenParen ∷ num 1 1 ∷ token_at 2 (kind.Function (Scalar Plus)) ∷ num 3 2 ∷ []) 0
unfolding num
row_open = (stuck-IsCaret [] (token_at 0 kind.OpenParen) (num 1 1 ∷ token_at 2 (kind.Function (Scalar Plus)) ∷ num 3 2 ∷ []) _ refl refl).0

-- `1)` has its caret at the first token: some statement ends with it, as `(1)` does, and it is none
row_close : IsCaret (num 0 1 ∷ token_at 1 kind.CloseParen ∷ []) 0
unfolding num
row_close = (early-IsCaret (num 0 1) (token_at 1 kind.CloseParen ∷ []) _ refl (λ e h. some_frames _ _ _ h)).0
  where
    some_frames : (f : Frame) (l : Level) (e : Expr) → ◌≡◌ {A = Config} (f ∷ [], l) ([], expression e) → ⊥
    some_frames f l e h = let frames : ◌≡◌ {A = List Frame} (f ∷ []) [] = ap (λ (m : Config). m.0) h in absurd cc

-- `2+<3` has its caret at column 1
row_less : IsCaret (num 0 2 ∷ token_at 1 (kind.Function (Scalar Plus)) ∷ token_at 2 (kind.Function (Scalar Less)) ∷ num 3 3 ∷ []) 1
unfolding num
row_less = (stuck-IsCaret (num 0 2 ∷ []) (token_at 1 (kind.Function (Scalar Plus))) (token_at 2 (kind.Function (Scalar Less)) ∷ num 3 3 ∷ []) _ refl refl).0

-- `3←4` has its caret at column 0
row_arrow : IsCaret (num 0 3 ∷ token_at 1 kind.Arrow ∷ num 2 4 ∷ []) 0
unfolding num
row_arrow = (stuck-IsCaret [] (num 0 3) (token_at 1 kind.Arrow ∷ num 2 4 ∷ []) _ refl refl).0

-- `A+/B` has its caret at column 0
row_reduce : IsCaret (nam 0 65 ∷ token_at 1 (kind.Function (Scalar Plus)) ∷ token_at 2 (kind.Function Slash) ∷ nam 3 66 ∷ []) 0
unfolding nam
row_reduce = (stuck-IsCaret [] (nam 0 65) (token_at 1 (kind.Function (Scalar Plus)) ∷ token_at 2 (kind.Function Slash) ∷ nam 3 66 ∷ []) _ refl refl).0

-- `1;2` has its caret at column 1
row_semicolon : IsCaret (num 0 1 ∷ token_at 1 kind.Semicolon ∷ num 2 2 ∷ []) 1
unfolding num
row_semicolon = (stuck-IsCaret (num 0 1 ∷ []) (token_at 1 kind.Semicolon) (num 2 2 ∷ []) _ refl refl).0

-- `A,[1]+B` is a catenation along an axis, of `+B`
row_axis : run (nam 0 65 ∷ token_at 1 (kind.Function Comma) ∷ token_at 2 kind.OpenBracket ∷ num 3 1 ∷ token_at 4 kind.CloseBracket ∷ token_at 5 (kind.Function (Scalar Plus)) ∷ nam 6 66 ∷ [])
    ≡ Some ([], expression (dyadic (name 0 (65 ∷ [])) (two.Along 1 Catenate) (along 2 (value (constant 3 (number_array [] (pos 1 ∷ [])))) 4) (monadic (one.Plain 5 (of_one.Scalar Plus)) none (value (name 6 (66 ∷ []))))))
unfolding num nam
row_axis = refl

-- `A[1]+B` is a sum of an index
row_index : run (nam 0 65 ∷ token_at 1 kind.OpenBracket ∷ num 2 1 ∷ token_at 3 kind.CloseBracket ∷ token_at 4 (kind.Function (Scalar Plus)) ∷ nam 5 66 ∷ [])
    ≡ Some ([], expression (dyadic (index (name 0 (65 ∷ [])) 1 (last (given (value (constant 2 (number_array [] (pos 1 ∷ [])))))) 3) (two.Plain 4 (of_two.Scalar Plus)) none (value (name 5 (66 ∷ [])))))
unfolding num nam
row_index = refl
