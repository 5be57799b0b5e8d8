-- The automaton of the grammar, over partial trees. It reads tokens from the right.
use Rattle.std.proofs.Common.{◌≡◌, ◌++◌, ◌∷◌, [], List, Option, Some, None, refl, sym, ◌∙◌, ap}
use Rattle.std.specs.Prelude.{ℕ, option_map, option_and_then}
use Rattle.apl_tokens.specs.declared.token.Token.{Token}
use Rattle.apl_tokens.specs.declared.token.TokenKind.{TokenKind}
use Rattle.apl_tokens.specs.declared.token.TokenKind.TheVariants as kind
use Rattle.apl_tokens.specs.declared.token.Glyph.{Glyph}
use Rattle.apl_array.specs.declared.function.ScalarFunction.{ScalarFunction}
use Rattle.apl_grammar.specs.declared.forms.DyadicFunction.TheVariants.{Scalar}
use Rattle.apl_grammar.specs.declared.forms.MonadicForm.{MonadicForm}
use Rattle.apl_grammar.specs.declared.forms.DyadicForm.{DyadicForm}
use Rattle.apl_grammar.specs.declared.forms.DyadicForm.TheVariants.{Plain, Inner, Outer}
use Rattle.apl_grammar.specs.Functions.{dyadic_scalar, monadic_form, dyadic_form, dyadic_counterpart, reduced}
use Rattle.apl_grammar.specs.Tree.{Expr, value, dyadic, monadic, assign, assign_at, Operand, constant, name, group, index, Slots, last, more, Slot, nothing, given, Axis, none, along, has_axis}

-- what an operand is wanted for
pub data Wanted : Type 0 where
  alone : Wanted
  applied : DyadicForm → Axis → Expr → Wanted
  indexed : Wanted → (left : ℕ) → Slots → (right : ℕ) → Wanted

abbrev pub fill : Wanted → Operand → Expr
fill alone o = value o
fill (applied f a e) o = dyadic o f a e
fill (indexed w l s r) o = fill w (index o l s r)

-- what was read inside the innermost open bracket, seen from its left end
pub data Level : Type 0 where
  operand_wanted : Wanted → Level  -- an operand is wanted
  expression : Expr → Level  -- an expression; if monadic, it may still become dyadic
  leading_dot : (dot column : ℕ) → ScalarFunction → Expr → Level  -- . g expr
  leading_arrow : (arrow : ℕ) → Expr → Level  -- ← expr
  leading_brackets : (left : ℕ) → Expr → (right : ℕ) → Expr → Level  -- [ expr ] expr, an axis or an index
  leading_slots : (left : ℕ) → Slots → (right arrow : ℕ) → Expr → Level  -- [ list ] ← expr

-- the slots after the last semicolon read
pub data Tail : Type 0 where
  no_slots : Tail
  slots : (semicolon : ℕ) → Slots → Tail

-- an open bracket, and what is on its right
pub data Frame : Type 0 where
  open_group : (right : ℕ) → Wanted → Frame
  open_index : (right : ℕ) → Tail → Wanted → Frame
  open_axis_or_index : (right : ℕ) → Expr → Frame
  open_indexed_assignment : (right : ℕ) → Tail → (arrow : ℕ) → Expr → Frame

abbrev pub Config : Type 0
Config = List Frame × Level

abbrev pub join : Tail → Slot → Slots
join no_slots s = last s
join (slots c ss) s = more s c ss

-- the operand that a function wants
abbrev pub applied_to : Axis → Expr → DyadicForm → Wanted
applied_to a e f = applied f a e

-- the operand that a monadic expression wants, were its function dyadic
abbrev pub as_dyadic : Expr → Option Wanted
as_dyadic (monadic f a e) = option_map (applied_to a e) (dyadic_counterpart f (has_axis a))
as_dyadic _ = None

abbrev pub with_index : ℕ → Slots → ℕ → Option Wanted → Option Wanted
with_index l s r None = None
with_index l s r (Some w) = Some (indexed w l s r)

abbrev pub as_wanted : Level → Option Wanted
as_wanted (operand_wanted w) = Some w
as_wanted (expression e) = as_dyadic e
as_wanted (leading_brackets l x r e) = with_index l (last (given x)) r (as_dyadic e)
as_wanted _ = None

-- a function and its axis are read
abbrev pub level_by : Option MonadicForm → Option DyadicForm → Axis → Expr → Option Level
level_by (Some f) _ a e = Some (expression (monadic f a e))
level_by None (Some f) a e = Some (operand_wanted (applied f a e))
level_by None None a e = None

abbrev pub level_for : ℕ → Glyph → Axis → Expr → Option Level
level_for c g a e = level_by (monadic_form c g (has_axis a)) (dyadic_form c g (has_axis a)) a e

-- within these brackets
abbrev pub within : List Frame → Level → Config
within fr l = (fr, l)

abbrev pub at_operand : List Frame → Operand → Option Wanted → Option Config
at_operand fr o None = None
at_operand fr o (Some w) = Some (fr, expression (fill w o))

abbrev pub at_name : List Frame → ℕ → List ℕ → Level → Option Config
at_name fr c n (leading_arrow r e) = Some (fr, expression (assign c n r e))
at_name fr c n (leading_slots l s d r e) = Some (fr, expression (assign_at c n l s d r e))
at_name fr c n l = at_operand fr (name c n) (as_wanted l)

abbrev pub at_close : List Frame → ℕ → Option Wanted → Option Config
at_close fr c None = None
at_close fr c (Some w) = Some (open_group c w ∷ fr, operand_wanted alone)

abbrev pub at_slice : List Frame → ℕ → Option Wanted → Option Config
at_slice fr c None = None
at_slice fr c (Some w) = Some (open_index c no_slots w ∷ fr, operand_wanted alone)

abbrev pub at_close_bracket : List Frame → ℕ → Level → Option Config
at_close_bracket fr c (expression e) = Some (open_axis_or_index c e ∷ fr, operand_wanted alone)
at_close_bracket fr c (leading_arrow r e) = Some (open_indexed_assignment c no_slots r e ∷ fr, operand_wanted alone)
at_close_bracket fr c l = at_slice fr c (as_wanted l)

-- the left function of an inner product
abbrev pub inner_level : ℕ → ℕ → ℕ → ScalarFunction → Expr → ScalarFunction → Level
inner_level c d k h e f = operand_wanted (applied (Inner c f d k h) none e)

abbrev pub monadic_level : Axis → Expr → MonadicForm → Level
monadic_level a e f = expression (monadic f a e)

abbrev pub at_function : List Frame → ℕ → Glyph → Level → Option Config
at_function fr c g (expression e) = option_map (within fr) (level_for c g none e)
at_function fr c g (leading_brackets l x r e) = option_map (within fr) (level_for c g (along l x r) e)
at_function fr c g (leading_dot d k h e) = option_map (λ f. within fr (inner_level c d k h e f)) (dyadic_scalar g)
at_function fr c g (operand_wanted (applied f a e)) = option_map (λ m. within fr (monadic_level a e m)) (reduced c g f)
at_function fr c g _ = None

abbrev pub dotted : List Frame → ℕ → Axis → Expr → DyadicForm → Option Config
dotted fr d none e (Plain c (Scalar f)) = Some (fr, leading_dot d c f e)
dotted fr d a e f = None

abbrev pub at_dot : List Frame → ℕ → Level → Option Config
at_dot fr d (expression (monadic f a e)) = option_and_then (dotted fr d a e) (dyadic_counterpart f (has_axis a))
at_dot fr d (operand_wanted (applied f a e)) = dotted fr d a e f
at_dot fr d _ = None

abbrev pub at_jot : List Frame → ℕ → Level → Option Config
at_jot fr j (leading_dot d c g e) = Some (fr, operand_wanted (applied (Outer j d c g) none e))
at_jot fr j _ = None

abbrev pub at_arrow : List Frame → ℕ → Level → Option Config
at_arrow fr r (expression e) = Some (fr, leading_arrow r e)
at_arrow fr r _ = None

abbrev pub at_open : ℕ → List Frame → Level → Option Config
at_open l (open_group r w ∷ fr) (expression e) = Some (fr, expression (fill w (group l e r)))
at_open l _ _ = None

abbrev pub slot_of : Level → Option Slot
slot_of (expression e) = Some (given e)
slot_of (operand_wanted alone) = Some nothing
slot_of _ = None

abbrev pub sliced_by : List Frame → ℕ → ℕ → Slot → Option Wanted → Option Config
sliced_by fr k c s None = None
sliced_by fr k c s (Some w) = Some (open_index c (slots k (last s)) w ∷ fr, operand_wanted alone)

abbrev pub at_semicolon : ℕ → List Frame → Option Slot → Option Config
at_semicolon k (open_index c tail w ∷ fr) (Some s) = Some (open_index c (slots k (join tail s)) w ∷ fr, operand_wanted alone)
at_semicolon k (open_axis_or_index c e ∷ fr) (Some s) = sliced_by fr k c s (as_dyadic e)
at_semicolon k (open_indexed_assignment c tail r e ∷ fr) (Some s) = Some (open_indexed_assignment c (slots k (join tail s)) r e ∷ fr, operand_wanted alone)
at_semicolon k _ _ = None

abbrev pub wanted_by : List Frame → Option Wanted → Option Config
wanted_by fr None = None
wanted_by fr (Some w) = Some (fr, operand_wanted w)

abbrev pub at_open_bracket : ℕ → List Frame → Option Slot → Option Config
at_open_bracket l (open_index c tail w ∷ fr) (Some s) = Some (fr, operand_wanted (indexed w l (join tail s) c))
at_open_bracket l (open_axis_or_index c e ∷ fr) (Some (given x)) = Some (fr, leading_brackets l x c e)
at_open_bracket l (open_axis_or_index c e ∷ fr) (Some nothing) = wanted_by fr (with_index l (last nothing) c (as_dyadic e))
at_open_bracket l (open_indexed_assignment c tail r e ∷ fr) (Some s) = Some (fr, leading_slots l (join tail s) c r e)
at_open_bracket l _ _ = None

abbrev pub step_kind : ℕ → TokenKind → List Frame → Level → Option Config
step_kind c (kind.Constant v) fr l = at_operand fr (constant c v) (as_wanted l)
step_kind c (kind.Name n) fr l = at_name fr c n l
step_kind c (kind.Function g) fr l = at_function fr c g l
step_kind c kind.Dot fr l = at_dot fr c l
step_kind c kind.Jot fr l = at_jot fr c l
step_kind c kind.Arrow fr l = at_arrow fr c l
step_kind c kind.OpenParen fr l = at_open c fr l
step_kind c kind.CloseParen fr l = at_close fr c (as_wanted l)
step_kind c kind.OpenBracket fr l = at_open_bracket c fr (slot_of l)
step_kind c kind.CloseBracket fr l = at_close_bracket fr c l
step_kind c kind.Semicolon fr l = at_semicolon c fr (slot_of l)

abbrev pub step : Token → Config → Option Config
step t k = step_kind t.column t.kind k.0 k.1

abbrev pub run_from : Config → List Token → Option Config
run_from k [] = Some k
run_from k (t ∷ ts) = option_and_then (step t) (run_from k ts)

abbrev pub run : List Token → Option Config
run ts = run_from ([], operand_wanted alone) ts

-- a part at the right end is read first
pub run_from-append : (k : Config) (a b : List Token) → run_from k (a ++ b) ≡ option_and_then (λ m. run_from m a) (run_from k b)
run_from-append k [] b = sym (and_then_some (run_from k b))
  where
    and_then_some : (r : Option Config) → option_and_then (λ m. Some m) r ≡ r
    and_then_some None = refl
    and_then_some (Some m) = refl
run_from-append k (t ∷ a) b = ap (option_and_then (step t)) (run_from-append k a b) ∙ and_then_and_then (run_from k b)
  where
    and_then_and_then : (r : Option Config) → option_and_then (step t) (option_and_then (λ m. run_from m a) r) ≡ option_and_then (λ m. run_from m (t ∷ a)) r
    and_then_and_then None = refl
    and_then_and_then (Some m) = refl

pub run_from-parts : (k m n : Config) (a b : List Token) → run_from k b ≡ Some m → run_from m a ≡ Some n → run_from k (a ++ b) ≡ Some n
run_from-parts k m n a b first second = run_from-append k a b ∙ ap (option_and_then (λ m. run_from m a)) first ∙ second
