-- The reader's states over a list of tokens from the right. No contract of a public function cites this file.
use Rattle.std.specs.Prelude.{◌≡◌, ℕ, Bool, true, false, List, [], ◌∷◌, ◌++◌, length, reverse, slice_set, Option, Some, None, is_some, option_map, option_and_then}
use Rattle.apl_tokens.specs.declared.token.Token.{Token}
use Rattle.apl_tokens.specs.declared.token.TokenKind.{TokenKind}
use Rattle.apl_tokens.specs.declared.token.TokenKind.TheVariants as kind
use Rattle.apl_tokens.specs.declared.token.Glyph.{Glyph}
use Rattle.apl_grammar.specs.declared.program.Brackets.{Brackets}
use Rattle.apl_grammar.specs.declared.forms.DyadicFunction.TheVariants.{Scalar}
use Rattle.apl_grammar.specs.declared.forms.MonadicForm.{MonadicForm}
use Rattle.apl_grammar.specs.declared.forms.DyadicForm.{DyadicForm}
use Rattle.apl_grammar.specs.declared.forms.DyadicForm.TheVariants.{Plain, Inner, Outer}
use Rattle.apl_grammar.specs.declared.program.Operation.{Operation}
use Rattle.apl_grammar.specs.declared.program.Operation.TheVariants as op
use Rattle.apl_grammar.specs.declared.reader.UndecidedFunction.{UndecidedFunction}
use Rattle.apl_grammar.specs.declared.reader.Reader.{Reader}
use Rattle.apl_grammar.specs.declared.reader.State.{State}
use Rattle.apl_grammar.specs.declared.reader.State.TheVariants as state
use Rattle.apl_grammar.specs.declared.reader.Pending.{Pending}
use Rattle.apl_grammar.specs.declared.reader.Pending.TheVariants as pending
use Rattle.apl_grammar.specs.declared.statement.GrammarStop.{GrammarStop}
use Rattle.apl_grammar.specs.declared.statement.GrammarStop.TheVariants as stop
use Rattle.apl_grammar.specs.Functions.{dyadic_scalar, monadic_form, dyadic_form, dyadic_counterpart, reduced}
use Rattle.apl_grammar.specs.Tree.{brackets, indexed_name}

-- The operations emitted so far, with empty places among them; what waits, the innermost first; and the state.
pub record Machine : Type 0 where
  pub operations : List (Option Operation)
  pub stack : List Pending
  pub state : State

abbrev pub machine : List (Option Operation) → List Pending → State → Machine
machine os es s = record { operations = os; stack = es; state = s }

-- what waits, the innermost first
abbrev pub stack_of : Reader → List Pending
stack_of r = reverse r.stack.items

abbrev pub machine_of : Reader → Machine
machine_of r = machine r.operations (stack_of r) r.state

-- the operations without the empty places
abbrev pub without_empty_places : List (Option Operation) → List Operation
without_empty_places [] = []
without_empty_places (None ∷ os) = without_empty_places os
without_empty_places (Some o ∷ os) = o ∷ without_empty_places os

-- an operand has ended: the operations that waited for it follow
abbrev pub after_operand : List (Option Operation) → List Pending → Machine
after_operand os (pending.Operation o ∷ es) = after_operand (os ++ Some o ∷ []) es
after_operand os es = machine os es state.Expression

-- the function waits for an operand
abbrev pub with_function_pending : Option Brackets → List Pending → DyadicForm → List Pending
with_function_pending a es f = pending.Operation (op.Dyadic f a) ∷ es

-- the function of two arguments of the same symbol waits for an operand, if there is one
abbrev pub with_dyadic : MonadicForm → Option Brackets → List Pending → Option (List Pending)
with_dyadic f a es = option_map (with_function_pending a es) (dyadic_counterpart f (is_some a))

abbrev pub with_index : Brackets → List Pending → List Pending
with_index b es = pending.Operation (op.Index [] b) ∷ es

-- what waits for the operand that ends here
abbrev pub stack_for_operand : State → List Pending → Option (List Pending)
stack_for_operand state.OperandWanted es = Some es
stack_for_operand (state.LeadingFunction f a) es = with_dyadic f a es
stack_for_operand (state.LeadingBrackets b (Some p)) es = option_map (with_index b) (with_dyadic p.function p.axis es)
stack_for_operand _ es = None

abbrev pub with_operand : List (Option Operation) → List Pending → State → Operation → Option Machine
with_operand os es s o = option_map (after_operand (os ++ Some o ∷ [])) (stack_for_operand s es)

abbrev pub with_name : List (Option Operation) → List Pending → State → ℕ → List ℕ → Option Machine
with_name os es (state.LeadingArrow r) c n = Some (machine (os ++ Some (op.Assign c n r) ∷ []) es state.Expression)
with_name os es (state.LeadingSlots cs b r) c n = Some (machine (os ++ Some (op.AssignAt (indexed_name c n cs b r)) ∷ []) es state.Expression)
with_name os es s c n = with_operand os es s (op.Name c n)

-- the operations of an expression that ends here
abbrev pub expression_operations : List (Option Operation) → State → Option (List (Option Operation))
expression_operations os state.Expression = Some os
expression_operations os (state.LeadingFunction f a) = Some (os ++ Some (op.Monadic f a) ∷ [])
expression_operations os _ = None

-- a function before an expression: of one argument, or else of two
abbrev pub with_either : Option MonadicForm → Option DyadicForm → Option Brackets → List (Option Operation) → List Pending → Option Machine
with_either (Some f) _ a os es = Some (machine os es (state.LeadingFunction f a))
with_either None (Some f) a os es = Some (machine os (with_function_pending a es f) state.OperandWanted)
with_either None None a os es = None

-- the symbol of a function before an expression
abbrev pub with_leading_function : ℕ → Glyph → Option Brackets → List (Option Operation) → List Pending → Option Machine
with_leading_function c g a os es = with_either (monadic_form c g (is_some a)) (dyadic_form c g (is_some a)) a os es

-- the monadic function whose place was kept is monadic
abbrev pub with_monadic : List (Option Operation) → Option UndecidedFunction → List (Option Operation)
with_monadic os None = os
with_monadic os (Some p) = slice_set os p.place (Some (op.Monadic p.function p.axis))

abbrev pub with_function : List (Option Operation) → List Pending → State → ℕ → Glyph → Option Machine
with_function os es (state.LeadingBrackets b p) c g = with_leading_function c g (Some b) (with_monadic os p) es
with_function os es (state.LeadingDot d k h) c g =
    option_map (λ f. machine os (pending.Operation (op.Dyadic (Inner c f d k h) None) ∷ es) state.OperandWanted) (dyadic_scalar g)
with_function os (pending.Operation (op.Dyadic f a) ∷ es) state.OperandWanted c g =
    option_map (λ m. machine os es (state.LeadingFunction m a)) (reduced c g f)
with_function os es s c g = option_and_then (λ os. with_leading_function c g None os es) (expression_operations os s)

-- a dot before a function: it may be a scalar function alone
abbrev pub leading_dot : ℕ → DyadicForm → Option Brackets → Option State
leading_dot d (Plain c (Scalar f)) None = Some (state.LeadingDot d c f)
leading_dot d f a = None

abbrev pub with_leading_dot : List (Option Operation) → List Pending → ℕ → Option Brackets → DyadicForm → Option Machine
with_leading_dot os es d a f = option_map (machine os es) (leading_dot d f a)

abbrev pub with_dot : List (Option Operation) → List Pending → State → ℕ → Option Machine
with_dot os es (state.LeadingFunction f a) d = option_and_then (with_leading_dot os es d a) (dyadic_counterpart f (is_some a))
with_dot os (pending.Operation (op.Dyadic f a) ∷ es) state.OperandWanted d = with_leading_dot os es d a f
with_dot os es s d = None

abbrev pub with_jot : List (Option Operation) → List Pending → State → ℕ → Option Machine
with_jot os es (state.LeadingDot d c g) j = Some (machine os (pending.Operation (op.Dyadic (Outer j d c g) None) ∷ es) state.OperandWanted)
with_jot os es s j = None

abbrev pub with_arrow : List (Option Operation) → List Pending → State → ℕ → Option Machine
with_arrow os es s r = option_map (λ os. machine os es (state.LeadingArrow r)) (expression_operations os s)

abbrev pub closed_group : ℕ → List (Option Operation) → List Pending → Option Machine
closed_group l os (pending.Group r ∷ es) = Some (after_operand (os ++ Some (op.Group (brackets l r)) ∷ []) es)
closed_group l os es = None

abbrev pub with_open_paren : List (Option Operation) → List Pending → State → ℕ → Option Machine
with_open_paren os es s l = option_and_then (λ os. closed_group l os es) (expression_operations os s)

abbrev pub with_close_paren : List (Option Operation) → List Pending → State → ℕ → Option Machine
with_close_paren os es s c = option_map (λ es. machine os (pending.Group c ∷ es) state.OperandWanted) (stack_for_operand s es)

abbrev pub with_close_bracket : List (Option Operation) → List Pending → State → ℕ → Option Machine
with_close_bracket os es state.Expression c = Some (machine os (pending.AxisOrIndex c None ∷ es) state.OperandWanted)
with_close_bracket os es (state.LeadingFunction f a) c =
    Some (machine (os ++ None ∷ []) (pending.AxisOrIndex c (Some (record { function = f; axis = a; place = length os })) ∷ es) state.OperandWanted)
with_close_bracket os es (state.LeadingArrow r) c = Some (machine os (pending.IndexedAssignment c [] r ∷ es) state.OperandWanted)
with_close_bracket os es s c = option_map (λ es. machine os (pending.Index c [] ∷ es) state.OperandWanted) (stack_for_operand s es)

-- the operations of a slot that ends here
abbrev pub with_slot : List (Option Operation) → State → Option (List (Option Operation))
with_slot os state.OperandWanted = Some (os ++ Some op.EmptySlot ∷ [])
with_slot os s = expression_operations os s

abbrev pub is_empty_slot : State → Bool
is_empty_slot state.OperandWanted = true
is_empty_slot _ = false

abbrev pub with_next_slot : ℕ → List (Option Operation) → List Pending → Option Machine
with_next_slot k os (pending.Index c cs ∷ es) = Some (machine os (pending.Index c (cs ++ k ∷ []) ∷ es) state.OperandWanted)
with_next_slot k os (pending.IndexedAssignment c cs r ∷ es) = Some (machine os (pending.IndexedAssignment c (cs ++ k ∷ []) r ∷ es) state.OperandWanted)
with_next_slot k os (pending.AxisOrIndex c (Some p) ∷ es) =
    option_map (λ es. machine os (pending.Index c (k ∷ []) ∷ es) state.OperandWanted) (with_dyadic p.function p.axis es)
with_next_slot k os es = None

abbrev pub with_semicolon : List (Option Operation) → List Pending → State → ℕ → Option Machine
with_semicolon os es s k = option_and_then (λ os. with_next_slot k os es) (with_slot os s)

abbrev pub closed_list : Bool → ℕ → List (Option Operation) → List Pending → Option Machine
closed_list empty l os (pending.Index c cs ∷ es) = Some (machine os (pending.Operation (op.Index cs (brackets l c)) ∷ es) state.OperandWanted)
closed_list empty l os (pending.IndexedAssignment c cs r ∷ es) = Some (machine os es (state.LeadingSlots cs (brackets l c) r))
closed_list false l os (pending.AxisOrIndex c p ∷ es) = Some (machine os es (state.LeadingBrackets (brackets l c) p))
closed_list true l os (pending.AxisOrIndex c (Some p) ∷ es) =
    option_map (λ es. machine os (with_index (brackets l c) es) state.OperandWanted) (with_dyadic p.function p.axis es)
closed_list empty l os es = None

abbrev pub with_open_bracket : List (Option Operation) → List Pending → State → ℕ → Option Machine
with_open_bracket os es s l = option_and_then (λ os. closed_list (is_empty_slot s) l os es) (with_slot os s)

abbrev pub step_kind : List (Option Operation) → List Pending → State → ℕ → TokenKind → Option Machine
step_kind os es s c (kind.Constant v) = with_operand os es s (op.Constant c v)
step_kind os es s c (kind.Name n) = with_name os es s c n
step_kind os es s c (kind.Function g) = with_function os es s c g
step_kind os es s c kind.Dot = with_dot os es s c
step_kind os es s c kind.Jot = with_jot os es s c
step_kind os es s c kind.Arrow = with_arrow os es s c
step_kind os es s c kind.OpenParen = with_open_paren os es s c
step_kind os es s c kind.CloseParen = with_close_paren os es s c
step_kind os es s c kind.OpenBracket = with_open_bracket os es s c
step_kind os es s c kind.CloseBracket = with_close_bracket os es s c
step_kind os es s c kind.Semicolon = with_semicolon os es s c

abbrev pub step : Token → Machine → Option Machine
step t m = step_kind m.operations m.stack m.state t.column t.kind

-- all tokens, the last one first
abbrev pub run : List Token → Option Machine
run [] = Some (machine [] [] state.OperandWanted)
run (t ∷ ts) = option_and_then (step t) (run ts)

-- the operations of a whole statement
abbrev pub when_nothing_pending : List (Option Operation) → List Pending → Option (List Operation)
when_nothing_pending os [] = Some (without_empty_places os)
when_nothing_pending os es = None

abbrev pub statement_operations : Machine → Option (List Operation)
statement_operations m = option_and_then (λ os. when_nothing_pending os m.stack) (expression_operations m.operations m.state)

-- the column of the first token
abbrev pub first_column : List Token → ℕ
first_column [] = 0
first_column (t ∷ ts) = t.column

-- the token at this column is not taken, or the tokens end too early
pub data Stops : List Token → ℕ → Type 0 where
  stuck : (before : List Token) (t : Token) (after : List Token) (m : Machine) → run after ≡ Some m → step t m ≡ None → Stops (before ++ t ∷ after) t.column
  early : (t : Token) (after : List Token) (m : Machine) → run (t ∷ after) ≡ Some m → statement_operations m ≡ None → Stops (t ∷ after) t.column

abbrev pub IsRefusedBy : List Token → GrammarStop → Type 0
IsRefusedBy tokens (stop.Syntax column) = Stops tokens column
IsRefusedBy tokens stop.Memory = Unit {0}

-- these tokens of all were read, and left this
pub record HasRead (all rest : List Token) (m : Machine) (first : ℕ) : Type 0 where
  pub done : List Token
  pub split : all ≡ rest ++ done
  pub ran : run done ≡ Some m
  pub column : first ≡ first_column done
