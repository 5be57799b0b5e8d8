-- The grammar as trees: the tokens that a tree spells, and its operations in the order of evaluation.
use Rattle.std.specs.Prelude.{◌≡◌, ℕ, Bool, IsTrue, List, [], ◌∷◌, ◌++◌, Option, Some, None, is_some}
use Rattle.apl_array.specs.Array.{ArrayValue}
use Rattle.apl_tokens.specs.declared.token.Token.{Token}
use Rattle.apl_tokens.specs.declared.token.TokenKind.{TokenKind}
use Rattle.apl_tokens.specs.declared.token.TokenKind.TheVariants as kind
use Rattle.apl_tokens.specs.declared.token.Glyph.TheVariants.{Scalar}
use Rattle.apl_grammar.specs.declared.forms.MonadicForm.{MonadicForm}
use Rattle.apl_grammar.specs.declared.forms.MonadicForm.TheVariants as one
use Rattle.apl_grammar.specs.declared.forms.DyadicForm.{DyadicForm}
use Rattle.apl_grammar.specs.declared.forms.DyadicForm.TheVariants as two
use Rattle.apl_grammar.specs.declared.program.Brackets.{Brackets}
use Rattle.apl_grammar.specs.declared.program.IndexedName.{IndexedName}
use Rattle.apl_grammar.specs.declared.program.Operation.{Operation}
use Rattle.apl_grammar.specs.declared.program.Operation.TheVariants as op
use Rattle.apl_grammar.specs.Functions.{monadic_glyph, dyadic_glyph, reversal_glyph, axis_glyph, operator_glyph, may_be_monadic, may_be_dyadic}

-- Leaves hold the columns of their tokens.
mutual
  -- expr = operand | operand function expr | function expr | name ← expr | name [ list ] ← expr
  pub data Expr : Type 0 where
    value : Operand → Expr
    dyadic : Operand → DyadicForm → Axis → Expr → Expr
    monadic : MonadicForm → Axis → Expr → Expr
    assign : (column : ℕ) → (text : List ℕ) → (arrow : ℕ) → Expr → Expr
    assign_at : (column : ℕ) → (text : List ℕ) → (left : ℕ) → Slots → (right : ℕ) → (arrow : ℕ) → Expr → Expr

  -- operand = constant | name | ( expr ) | operand [ list ]
  pub data Operand : Type 0 where
    constant : (column : ℕ) → ArrayValue → Operand
    name : (column : ℕ) → (text : List ℕ) → Operand
    group : (left : ℕ) → Expr → (right : ℕ) → Operand
    index : Operand → (left : ℕ) → Slots → (right : ℕ) → Operand

  -- list = slot | slot ; list
  pub data Slots : Type 0 where
    last : Slot → Slots
    more : Slot → (semicolon : ℕ) → Slots → Slots

  -- slot = nothing | expr
  pub data Slot : Type 0 where
    nothing : Slot
    given : Expr → Slot

  -- perhaps [ expr ]
  pub data Axis : Type 0 where
    none : Axis
    along : (left : ℕ) → Expr → (right : ℕ) → Axis

-- brackets at these columns
abbrev pub brackets : ℕ → ℕ → Brackets
brackets l r = record { left = l; right = r }

-- the name, the brackets and the arrow of an indexed assignment
abbrev pub indexed_name : (column : ℕ) → (name semicolons : List ℕ) → Brackets → (arrow : ℕ) → IndexedName
indexed_name c n cs b r = record { column = c; name = n; semicolons = cs; brackets = b; arrow = r }

-- the brackets of an axis, if there is one
abbrev pub axis_brackets : Axis → Option Brackets
axis_brackets none = None
axis_brackets (along l e r) = Some (brackets l r)

-- there is an axis
abbrev pub has_axis : Axis → Bool
has_axis a = is_some (axis_brackets a)

-- each function of the tree has its valence, and an axis only if it takes one
abbrev mutual
  pub IsTree : Expr → Type 0
  IsTree (value o) = IsOperand o
  IsTree (dyadic o f a e) = IsOperand o × IsTrue (may_be_dyadic f (has_axis a)) × IsAxis a × IsTree e
  IsTree (monadic f a e) = IsTrue (may_be_monadic f (has_axis a)) × IsAxis a × IsTree e
  IsTree (assign c n r e) = IsTree e
  IsTree (assign_at c n o s d r e) = IsList s × IsTree e

  pub IsOperand : Operand → Type 0
  IsOperand (constant c v) = Unit {0}
  IsOperand (name c n) = Unit {0}
  IsOperand (group o e c) = IsTree e
  IsOperand (index x o s c) = IsOperand x × IsList s

  pub IsList : Slots → Type 0
  IsList (last s) = IsSlot s
  IsList (more s c ss) = IsSlot s × IsList ss

  pub IsSlot : Slot → Type 0
  IsSlot nothing = Unit {0}
  IsSlot (given e) = IsTree e

  pub IsAxis : Axis → Type 0
  IsAxis none = Unit {0}
  IsAxis (along o e c) = IsTree e

-- a token at this column
abbrev pub token_at : ℕ → TokenKind → Token
token_at c l = record { kind = l; column = c }

-- the tokens of a function of one argument
abbrev pub spells_monadic : MonadicForm → List Token
spells_monadic (one.Plain c f) = token_at c (kind.Function (monadic_glyph f)) ∷ []
spells_monadic (one.Reverse c axis) = token_at c (kind.Function (reversal_glyph axis)) ∷ []
spells_monadic (one.Reduce c f s operator) = token_at c (kind.Function (Scalar f)) ∷ token_at s (kind.Function (operator_glyph operator)) ∷ []

-- the tokens of a function of two arguments
abbrev pub spells_dyadic : DyadicForm → List Token
spells_dyadic (two.Plain c f) = token_at c (kind.Function (dyadic_glyph f)) ∷ []
spells_dyadic (two.Along c f) = token_at c (kind.Function (axis_glyph f)) ∷ []
spells_dyadic (two.Inner c f d e g) = token_at c (kind.Function (Scalar f)) ∷ token_at d kind.Dot ∷ token_at e (kind.Function (Scalar g)) ∷ []
spells_dyadic (two.Outer j d c g) = token_at j kind.Jot ∷ token_at d kind.Dot ∷ token_at c (kind.Function (Scalar g)) ∷ []

-- the tokens of a tree, in order
abbrev mutual
  pub spells : Expr → List Token
  spells (value o) = spells_operand o
  spells (dyadic o f a e) = spells_operand o ++ (spells_dyadic f ++ (spells_axis a ++ spells e))
  spells (monadic f a e) = spells_monadic f ++ (spells_axis a ++ spells e)
  spells (assign c n r e) = token_at c (kind.Name n) ∷ token_at r kind.Arrow ∷ spells e
  spells (assign_at c n o s d r e) = token_at c (kind.Name n) ∷ token_at o kind.OpenBracket ∷ spells_list s ++ token_at d kind.CloseBracket ∷ token_at r kind.Arrow ∷ spells e

  pub spells_operand : Operand → List Token
  spells_operand (constant c v) = token_at c (kind.Constant v) ∷ []
  spells_operand (name c n) = token_at c (kind.Name n) ∷ []
  spells_operand (group o e c) = token_at o kind.OpenParen ∷ spells e ++ token_at c kind.CloseParen ∷ []
  spells_operand (index x o s c) = spells_operand x ++ (token_at o kind.OpenBracket ∷ (spells_list s ++ token_at c kind.CloseBracket ∷ []))

  pub spells_list : Slots → List Token
  spells_list (last s) = spells_slot s
  spells_list (more s c ss) = spells_slot s ++ token_at c kind.Semicolon ∷ spells_list ss

  pub spells_slot : Slot → List Token
  spells_slot nothing = []
  spells_slot (given e) = spells e

  pub spells_axis : Axis → List Token
  spells_axis none = []
  spells_axis (along o e c) = token_at o kind.OpenBracket ∷ spells e ++ token_at c kind.CloseBracket ∷ []

-- the columns of a list's semicolons, from right to left
abbrev pub semicolons : Slots → List ℕ
semicolons (last s) = []
semicolons (more s c ss) = semicolons ss ++ c ∷ []

-- The operations of a tree in the order of evaluation, each after its operands. The expression on the right is first,
-- then the axis, the operand, and the function. The slots of a list come from the last to the first, then the array.
abbrev mutual
  pub operations : Expr → List Operation
  operations (value o) = operand_operations o
  operations (dyadic o f a e) = operations e ++ (axis_operations a ++ (operand_operations o ++ op.Dyadic f (axis_brackets a) ∷ []))
  operations (monadic f a e) = operations e ++ (axis_operations a ++ op.Monadic f (axis_brackets a) ∷ [])
  operations (assign c n r e) = operations e ++ op.Assign c n r ∷ []
  operations (assign_at c n o s d r e) = operations e ++ (list_operations s ++ op.AssignAt (indexed_name c n (semicolons s) (brackets o d) r) ∷ [])

  pub operand_operations : Operand → List Operation
  operand_operations (constant c v) = op.Constant c v ∷ []
  operand_operations (name c n) = op.Name c n ∷ []
  operand_operations (group o e c) = operations e ++ op.Group (brackets o c) ∷ []
  operand_operations (index x o s c) = list_operations s ++ (operand_operations x ++ op.Index (semicolons s) (brackets o c) ∷ [])

  pub list_operations : Slots → List Operation
  list_operations (last s) = slot_operations s
  list_operations (more s c ss) = list_operations ss ++ slot_operations s

  pub slot_operations : Slot → List Operation
  slot_operations nothing = op.EmptySlot ∷ []
  slot_operations (given e) = operations e

  pub axis_operations : Axis → List Operation
  axis_operations none = []
  axis_operations (along o e c) = operations e

-- the operations of some tree
abbrev pub IsProgram : List Operation → Type 0
IsProgram ops = (e : Expr) × IsTree e × (operations e ≡ ops)

-- the tree that spells the tokens, which no other does; the program is its operations
abbrev pub IsProgramOf : List Token → List Operation → Type 0
IsProgramOf tokens ops =
    (e : Expr) × IsTree e × (operations e ≡ ops) × (spells e ≡ tokens) × ((other : Expr) → IsTree other → spells other ≡ tokens → other ≡ e)
