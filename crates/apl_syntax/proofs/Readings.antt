-- A line reads in one way at most.
use Rattle.std.proofs.Common.{◌≡◌, ◌⊎◌, [], ◌∷◌, ◌++◌, List, refl, sym, ◌∙◌, ap, subst, inl, inr, length}
use Rattle.std.specs.Prelude.{ℕ, encode_utf8_all}
use Rattle.apl_tokens.specs.declared.token.Token.{Token}
use Rattle.apl_tokens.specs.Fronts.{IsFront}
use Rattle.apl_tokens.specs.Lexis.{Lexes, HasLexicalFault, HasLimitFault}
use Rattle.apl_grammar.specs.declared.forms.MonadicForm.{MonadicForm}
use Rattle.apl_grammar.specs.declared.forms.MonadicForm.TheVariants as one
use Rattle.apl_grammar.specs.declared.forms.DyadicForm.{DyadicForm}
use Rattle.apl_grammar.specs.declared.forms.DyadicForm.TheVariants as two
use Rattle.apl_grammar.specs.Tree.{Expr, Operand, value, dyadic, monadic, assign, assign_at, constant, name, group, index, IsTree, spells, spells_operand, spells_monadic, spells_dyadic, spells_axis}
use Rattle.apl_grammar.specs.Caret.{IsCaret, HasNoTree}
use Rattle.apl_syntax.specs.declared.lines.Command.{Command}
use Rattle.apl_syntax.specs.Commands.{IsCommandLine, IsCommand}
use Rattle.apl_syntax.specs.Reading.{Reading, character, command, blank, statement, syntax, limit, HasSyntaxFault, IsTokensReading, IsListedReading, HasUnlisted, IsListed, IsReading}
use Rattle.apl_syntax.proofs.Spelled.{one_command, command_line_of}

-- the laws of the crates below
pub record Laws : Type 0 where
  pub fronts : (line characters others rest other_rest : List ℕ) → IsFront line characters rest → IsFront line others other_rest → (characters ≡ others) × (rest ≡ other_rest)
  pub lexings : (characters : List ℕ) (tokens others : List Token) → Lexes characters tokens → Lexes characters others → tokens ≡ others
  pub lexed_or_faulty : (characters : List ℕ) (tokens : List Token) (column : ℕ) → Lexes characters tokens → HasLexicalFault characters column → ⊥
  pub lexed_or_limited : (characters : List ℕ) (tokens : List Token) (column : ℕ) → Lexes characters tokens → HasLimitFault characters column → ⊥
  pub faulty_or_limited : (characters : List ℕ) (column other : ℕ) → HasLexicalFault characters column → HasLimitFault characters other → ⊥
  pub faults : (characters : List ℕ) (column other : ℕ) → HasLexicalFault characters column → HasLexicalFault characters other → column ≡ other
  pub limits : (characters : List ℕ) (column other : ℕ) → HasLimitFault characters column → HasLimitFault characters other → column ≡ other
  pub trees : (e f : Expr) → IsTree e → IsTree f → spells e ≡ spells f → e ≡ f
  pub carets : (tokens : List Token) (column other : ℕ) → IsCaret tokens column → IsCaret tokens other → column ≡ other

not_empty : (ts us : List Token) (t : Token) → [] ≡ ts ++ t ∷ us → ⊥
not_empty [] us t h = absurd cc
not_empty (s ∷ ts) us t h = absurd cc

operand_some : (o : Operand) → [] ≡ spells_operand o → ⊥
operand_some (constant c v) h = absurd cc
operand_some (name c n) h = absurd cc
operand_some (group l e r) h = absurd cc
operand_some (index o l s r) h = not_empty (spells_operand o) _ _ h

monadic_some : (us : List Token) (f : MonadicForm) → [] ≡ spells_monadic f ++ us → ⊥
monadic_some us (one.Plain c f) h = absurd cc
monadic_some us (one.Reverse c axis) h = absurd cc
monadic_some us (one.Reduce c f s operator) h = absurd cc

dyadic_some : (ts us : List Token) (f : DyadicForm) → [] ≡ ts ++ (spells_dyadic f ++ us) → ⊥
dyadic_some ts us (two.Plain c f) h = not_empty ts _ _ h
dyadic_some ts us (two.Along c f) h = not_empty ts _ _ h
dyadic_some ts us (two.Inner c f d e g) h = not_empty ts _ _ h
dyadic_some ts us (two.Outer j d c g) h = not_empty ts _ _ h

-- a tree spells some token
spells_some : (e : Expr) → [] ≡ spells e → ⊥
spells_some (value o) h = operand_some o h
spells_some (dyadic o f a e) h = dyadic_some (spells_operand o) (spells_axis a ++ spells e) f h
spells_some (monadic f a e) h = monadic_some (spells_axis a ++ spells e) f h
spells_some (assign c n a e) h = absurd cc
spells_some (assign_at c n l s r a e) h = absurd cc

module _ (laws : Laws) (cs : List ℕ) where
  -- a blank line has no syntax fault, and a statement none
  no_fault : (ts : List Token) (column : ℕ) → Lexes cs ts → HasSyntaxFault cs column → (us : List Token) × (ts ≡ us) × IsCaret us column × HasNoTree us
  no_fault ts column lexed (inl fault) = absurd (laws.lexed_or_faulty cs ts column lexed fault)
  no_fault ts column lexed (inr (us, other, caret, none)) = (us, laws.lexings cs ts us lexed other, caret, none)

  blank_or_fault : (column : ℕ) → Lexes cs [] → HasSyntaxFault cs column → ⊥
  blank_or_fault column lexed fault =
      let found : (us : List Token) × ([] ≡ us) × IsCaret us column × HasNoTree us = no_fault [] column lexed fault in
      subst (λ (x : List Token). IsCaret x column) (sym found.1) found.2

  statement_or_fault : (e : Expr) (column : ℕ) → Lexes cs (spells e) → IsTree e → HasSyntaxFault cs column → ⊥
  statement_or_fault e column lexed is fault =
      let found : (us : List Token) × (spells e ≡ us) × IsCaret us column × HasNoTree us = no_fault (spells e) column lexed fault in
      found.3 e is found.1

  one_fault : (column other : ℕ) → HasSyntaxFault cs column → HasSyntaxFault cs other → column ≡ other
  one_fault column other (inl fault) (inl again) = laws.faults cs column other fault again
  one_fault column other (inl fault) (inr (us, lexed, caret, none)) = absurd (laws.lexed_or_faulty cs us column lexed fault)
  one_fault column other (inr (ts, lexed, caret, none)) (inl fault) = absurd (laws.lexed_or_faulty cs ts other lexed fault)
  one_fault column other (inr (ts, lexed, caret, none)) (inr (us, again, other_caret, other_none)) =
      laws.carets us column other (subst (λ (x : List Token). IsCaret x column) (laws.lexings cs ts us lexed again) caret) other_caret

  fault_or_limit : (column other : ℕ) → HasSyntaxFault cs column → HasLimitFault cs other → ⊥
  fault_or_limit column other (inl fault) beyond = laws.faulty_or_limited cs column other fault beyond
  fault_or_limit column other (inr (ts, lexed, caret, none)) beyond = laws.lexed_or_limited cs ts other lexed beyond

  one_of_tokens : (r s : Reading) → IsTokensReading cs r → IsTokensReading cs s → r ≡ s
  one_of_tokens (character b c) s h k = absurd h
  one_of_tokens (command x) s h k = absurd h
  one_of_tokens blank (character b c) h k = absurd k
  one_of_tokens blank (command x) h k = absurd k
  one_of_tokens blank blank h k = refl
  one_of_tokens blank (statement e) h k = absurd (spells_some e (laws.lexings cs [] (spells e) h k.0))
  one_of_tokens blank (syntax c) h k = absurd (blank_or_fault c h k)
  one_of_tokens blank (limit c) h k = absurd (laws.lexed_or_limited cs [] c h k)
  one_of_tokens (statement e) (character b c) h k = absurd k
  one_of_tokens (statement e) (command x) h k = absurd k
  one_of_tokens (statement e) blank h k = absurd (spells_some e (laws.lexings cs [] (spells e) k h.0))
  one_of_tokens (statement e) (statement f) h k = ap statement (laws.trees e f h.1 k.1 (laws.lexings cs (spells e) (spells f) h.0 k.0))
  one_of_tokens (statement e) (syntax c) h k = absurd (statement_or_fault e c h.0 h.1 k)
  one_of_tokens (statement e) (limit c) h k = absurd (laws.lexed_or_limited cs (spells e) c h.0 k)
  one_of_tokens (syntax c) (character b d) h k = absurd k
  one_of_tokens (syntax c) (command x) h k = absurd k
  one_of_tokens (syntax c) blank h k = absurd (blank_or_fault c k h)
  one_of_tokens (syntax c) (statement e) h k = absurd (statement_or_fault e c k.0 k.1 h)
  one_of_tokens (syntax c) (syntax d) h k = ap syntax (one_fault c d h k)
  one_of_tokens (syntax c) (limit d) h k = absurd (fault_or_limit c d h k)
  one_of_tokens (limit c) (character b d) h k = absurd k
  one_of_tokens (limit c) (command x) h k = absurd k
  one_of_tokens (limit c) blank h k = absurd (laws.lexed_or_limited cs [] c k h)
  one_of_tokens (limit c) (statement e) h k = absurd (laws.lexed_or_limited cs (spells e) c k.0 h)
  one_of_tokens (limit c) (syntax d) h k = absurd (fault_or_limit d c k h)
  one_of_tokens (limit c) (limit d) h k = ap limit (laws.limits cs c d h k)

  -- listed characters are a command, or tokens
  abbrev ListedParts : Reading → Type 0
  ListedParts r = ((c : Command) × (r ≡ command c) × IsCommand cs c) ⊎ ((IsCommandLine cs → ⊥) × IsTokensReading cs r)

  listed_parts : (r : Reading) → IsListedReading cs r → ListedParts r
  listed_parts (command c) h = inl (c, refl, h)
  listed_parts (character b c) h = inr h
  listed_parts blank h = inr h
  listed_parts (statement e) h = inr h
  listed_parts (syntax c) h = inr h
  listed_parts (limit c) h = inr h

  one_of_listed_parts : (r s : Reading) → ListedParts r → ListedParts s → r ≡ s
  one_of_listed_parts r s (inl (c, is, h)) (inl (d, other_is, k)) = is ∙ ap command (one_command cs c d h k) ∙ sym other_is
  one_of_listed_parts r s (inl (c, is, h)) (inr (not, k)) = absurd (not (command_line_of cs c h))
  one_of_listed_parts r s (inr (not, h)) (inl (d, is, k)) = absurd (not (command_line_of cs d k))
  one_of_listed_parts r s (inr (not, h)) (inr (other_not, k)) = one_of_tokens r s h k

  one_listed : (r s : Reading) → IsListedReading cs r → IsListedReading cs s → r ≡ s
  one_listed r s h k = one_of_listed_parts r s (listed_parts r h) (listed_parts s k)

-- a reading is of an unlisted symbol, or of listed characters
abbrev Parts : List ℕ → Reading → Type 0
Parts line r = ((b c : ℕ) × (r ≡ character b c) × HasUnlisted line b c) ⊎ ((cs : List ℕ) × IsListed line cs × IsListedReading cs r)

parts : (line : List ℕ) (r : Reading) → IsReading line r → Parts line r
parts line (character b c) h = inl (b, c, refl, h)
parts line (command c) h = inr h
parts line blank h = inr h
parts line (statement e) h = inr h
parts line (syntax c) h = inr h
parts line (limit c) h = inr h

module _ (laws : Laws) (line : List ℕ) where
  one_unlisted : (b c d e : ℕ) → HasUnlisted line b c → HasUnlisted line d e → character b c ≡ character d e
  one_unlisted b c d e (cs, rest, front, some, bytes, column) (ds, other_rest, other, other_some, other_bytes, other_column) =
      let same : cs ≡ ds = (laws.fronts line cs ds rest other_rest front other).0 in
      let b_is : b ≡ d = bytes ∙ ap (λ (x : List ℕ). length (encode_utf8_all x)) same ∙ sym other_bytes in
      let c_is : c ≡ e = column ∙ ap (λ (x : List ℕ). length x) same ∙ sym other_column in
      cc

  unlisted_or_listed : (b c : ℕ) (ds : List ℕ) → HasUnlisted line b c → IsListed line ds → ⊥
  unlisted_or_listed b c ds (cs, rest, front, some, bytes, column) listed = some (laws.fronts line cs ds rest [] front listed).1

  one_of_parts : (r s : Reading) → Parts line r → Parts line s → r ≡ s
  one_of_parts r s (inl (b, c, is, h)) (inl (d, e, is', k)) = is ∙ one_unlisted b c d e h k ∙ sym is'
  one_of_parts r s (inl (b, c, is, h)) (inr (ds, listed, k)) = absurd (unlisted_or_listed b c ds h listed)
  one_of_parts r s (inr (cs, listed, h)) (inl (b, c, is, k)) = absurd (unlisted_or_listed b c cs k listed)
  one_of_parts r s (inr (cs, listed, h)) (inr (ds, again, k)) =
      let same : cs ≡ ds = (laws.fronts line cs ds [] [] listed again).0 in
      one_listed laws ds r s (subst (λ (x : List ℕ). IsListedReading x r) same h) k

  pub one_reading_of : (r s : Reading) → IsReading line r → IsReading line s → r ≡ s
  one_reading_of r s h k = one_of_parts r s (parts line r h) (parts line s k)
