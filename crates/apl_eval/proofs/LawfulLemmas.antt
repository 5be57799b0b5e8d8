-- Statements keep a workspace lawful.
use Rattle.std.proofs.Common.{◌≤◌, ℕ, List, [], ◌∷◌, ◌++◌, Option, Some, None, Result, Ok, Err, sym, subst, arith}
use Rattle.std.specs.Prelude.{Bool, true, false, cond, IfOk, IfSome}
use Rattle.std.specs.Ordering.{nat_cmp}
use Rattle.std.specs.Cmp.Lexicographic.{slice_cmp}
use Rattle.std.specs.FinMap.{get-empty}
use Rattle.std.proofs.lemmas.List.Elements.{All-head, All-tail, All-nil, All-cons}
use Rattle.apl_array.specs.declared.axis.Origin.{Origin}
use Rattle.apl_array.specs.Array.{ArrayValue}
use Rattle.apl_array.specs.Limits.{IsWithinLimits}
use Rattle.apl_tokens.specs.declared.token.Token.{Token}
use Rattle.apl_tokens.specs.declared.token.TokenKind.TheVariants as kind
use Rattle.apl_tokens.specs.Constants.{IsKindWithinLimits, HasConstantsWithinLimits}
use Rattle.apl_grammar.specs.declared.forms.MonadicForm.{MonadicForm}
use Rattle.apl_grammar.specs.declared.forms.DyadicForm.{DyadicForm}
use Rattle.apl_grammar.specs.Tree.{Expr, value, dyadic, monadic, assign, assign_at, Operand, constant, name, group, index, Slots, last, more, Slot, nothing, given, Axis, none, along, token_at, spells, spells_monadic, spells_dyadic, spells_operand, spells_list, spells_slot, spells_axis}
use Rattle.apl_print.specs.declared.reports.Report.{Report}
use Rattle.apl_eval.specs.declared.statement.Shown.{Shown}
use Rattle.apl_eval.specs.declared.statement.EvalStop.{EvalStop}
use Rattle.apl_eval.specs.declared.statement.EvalStop.TheVariants.{Error, Memory}
use Rattle.apl_eval.specs.Workspace.{WorkspaceValue, value_of, with_origin, with_width, assigned, opening_workspace}
use Rattle.apl_eval.specs.Functions.{monadic_column, dyadic_column, monadic_result, dyadic_result, index_result, assign_at_result}
use Rattle.apl_eval.specs.Meaning.{Outcome, done, failed, then, outcome_at, name_result, assign_at_outcome_of, meaning_of, meaning_of_operand, meaning_of_slots, meaning_of_slot, meaning_of_axis}
use Rattle.apl_eval.specs.Evaluates.{Evaluates}
use Rattle.apl_eval.specs.Lawful.{IsLawful, LeavesLawful, IsLawfulOutcome}
use Rattle.apl_eval.proofs.NameLemmas.{is_name, get-insert_name}

pub opening_lawful : IsLawful opening_workspace
opening_lawful = record {
  values = λ name.
      let P : Option ArrayValue → Type 0 = λ o. IfSome o IsWithinLimits in
      subst P (sym (get-empty (slice_cmp nat_cmp) name)) tt;
  least_width = omega arith;
  greatest_width = omega arith;
}

pub origin_lawful : (origin : Origin) (w : WorkspaceValue) → IsLawful w → IsLawful (with_origin origin w)
origin_lawful origin w h = record { values = h.values; least_width = h.least_width; greatest_width = h.greatest_width }

pub width_lawful : (width : ℕ) (w : WorkspaceValue) → 30 ≤ width → width ≤ 130 → IsLawful w → IsLawful (with_width width w)
width_lawful width w least greatest h = record { values = h.values; least_width = least; greatest_width = greatest }

either_value : (b : Bool) (v : ArrayValue) (o : Option ArrayValue) → IsWithinLimits v → IfSome o IsWithinLimits → IfSome (cond b (Some v) o) IsWithinLimits
either_value true v o h k = h
either_value false v o h k = k

assigned_lawful : (text : List ℕ) (v : ArrayValue) (w : WorkspaceValue) → IsWithinLimits v → IsLawful w → IsLawful (assigned text v w)
assigned_lawful text v w h k = record {
  values = λ name.
      let P : Option ArrayValue → Type 0 = λ o. IfSome o IsWithinLimits in
      subst P (sym (get-insert_name w.names text v name)) (either_value (is_name name text) v (value_of name w) h (k.values name));
  least_width = k.least_width;
  greatest_width = k.greatest_width;
}

-- ---- outcomes

then_kept : {V U : Type 0} (P : V → Type 0) (Q : U → Type 0) (m : Outcome V) (next : V → WorkspaceValue → Outcome U) → LeavesLawful P m
    → ((v : V) (w : WorkspaceValue) → P v → IsLawful w → LeavesLawful Q (next v w)) → LeavesLawful Q (then m next)
then_kept P Q (done v w) next (h, k) goes_on = goes_on v w h k
then_kept P Q (failed report column w) next h goes_on = h

outcome_kept : (column : ℕ) (r : Result ArrayValue Report) (w : WorkspaceValue) → IfOk r IsWithinLimits → IsLawful w → IsLawfulOutcome (outcome_at column r w)
outcome_kept column (Ok v) w h k = (h, k)
outcome_kept column (Err report) w h k = k

name_kept : (o : Option ArrayValue) → IfSome o IsWithinLimits → IfOk (name_result o) IsWithinLimits
name_kept (Some v) h = h
name_kept None h = tt

assign_at_kept : (r : Result ArrayValue Report) (column : ℕ) (text : List ℕ) (arrow : ℕ) (right : ArrayValue) (w : WorkspaceValue) → IfOk r IsWithinLimits
    → IsWithinLimits right → IsLawful w → IsLawfulOutcome (assign_at_outcome_of r column text arrow right w)
assign_at_kept (Ok changed) column text arrow right w h b k = (b, assigned_lawful text changed w h k)
assign_at_kept (Err report) column text arrow right w h b k = k

-- of values of which nothing is wanted
abbrev Any : {V : Type 0} → V → Type 0
Any v = Unit {0}

-- ---- the tokens of the parts of a tree

abbrev WithinLimits : Token → Type 0
WithinLimits t = IsKindWithinLimits t.kind

front : (ts us : List Token) → HasConstantsWithinLimits (ts ++ us) → HasConstantsWithinLimits ts
front [] us h = All-nil WithinLimits
front (t ∷ ts) us h = All-cons WithinLimits t ts (All-head WithinLimits t (ts ++ us) h) (front ts us (All-tail WithinLimits t (ts ++ us) h))

behind : (ts us : List Token) → HasConstantsWithinLimits (ts ++ us) → HasConstantsWithinLimits us
behind [] us h = h
behind (t ∷ ts) us h = behind ts us (All-tail WithinLimits t (ts ++ us) h)

next : (t : Token) (ts : List Token) → HasConstantsWithinLimits (t ∷ ts) → HasConstantsWithinLimits ts
next = All-tail WithinLimits

-- between two brackets
between : (l r : Token) (ts : List Token) → HasConstantsWithinLimits (l ∷ ts ++ r ∷ []) → HasConstantsWithinLimits ts
between l r ts h = front ts (r ∷ []) (next l (ts ++ r ∷ []) h)

-- ---- functions

-- the results of functions of arrays within all limits are within all limits
pub record ResultsWithinLimits : Type 0 where
  pub monadic : (origin : Origin) (f : MonadicForm) (axis : Option ArrayValue) (right : ArrayValue) → IsWithinLimits right → IfOk (monadic_result origin f axis right) IsWithinLimits
  pub dyadic : (origin : Origin) (f : DyadicForm) (axis : Option ArrayValue) (left right : ArrayValue) → IsWithinLimits left → IsWithinLimits right
      → IfOk (dyadic_result origin f axis left right) IsWithinLimits
  pub index : (origin : Origin) (array : ArrayValue) (slots : List (Option ArrayValue)) → IsWithinLimits array → IfOk (index_result origin array slots) IsWithinLimits
  pub assign_at : (origin : Origin) (array : Option ArrayValue) (slots : List (Option ArrayValue)) (value : ArrayValue) → IfSome array IsWithinLimits
      → IsWithinLimits value → IfOk (assign_at_result origin array slots value) IsWithinLimits

module _ (results : ResultsWithinLimits) where
  -- ---- trees

  mutual
    expression_kept : (e : Expr) (w : WorkspaceValue) → HasConstantsWithinLimits (spells e) → IsLawful w → IsLawfulOutcome (meaning_of e w)
    expression_kept (value o) w h k = operand_kept o w h k
    expression_kept (dyadic o f a e) w h k =
        let behind_operand = behind (spells_operand o) (spells_dyadic f ++ (spells_axis a ++ spells e)) h in
        let behind_form = behind (spells_dyadic f) (spells_axis a ++ spells e) behind_operand in
        then_kept IsWithinLimits IsWithinLimits (meaning_of e w) _ (expression_kept e w (behind (spells_axis a) (spells e) behind_form) k)
        (λ right u b lawful. then_kept Any IsWithinLimits (meaning_of_axis a u) _ (axis_kept a u (front (spells_axis a) (spells e) behind_form) lawful)
        (λ axis v any lawful. then_kept IsWithinLimits IsWithinLimits (meaning_of_operand o v) _
        (operand_kept o v (front (spells_operand o) (spells_dyadic f ++ (spells_axis a ++ spells e)) h) lawful)
        (λ left x a lawful. outcome_kept (dyadic_column f) (dyadic_result x.origin f axis left right) x (results.dyadic x.origin f axis left right a b) lawful)))
    expression_kept (monadic f a e) w h k =
        let behind_form = behind (spells_monadic f) (spells_axis a ++ spells e) h in
        then_kept IsWithinLimits IsWithinLimits (meaning_of e w) _ (expression_kept e w (behind (spells_axis a) (spells e) behind_form) k)
        (λ right u b lawful. then_kept Any IsWithinLimits (meaning_of_axis a u) _ (axis_kept a u (front (spells_axis a) (spells e) behind_form) lawful)
        (λ axis v any lawful. outcome_kept (monadic_column f) (monadic_result v.origin f axis right) v (results.monadic v.origin f axis right b) lawful))
    expression_kept (assign c n r e) w h k =
        let arrow = token_at r kind.Arrow in
        let behind_arrow = next arrow (spells e) (next (token_at c (kind.Name n)) (arrow ∷ spells e) h) in
        then_kept IsWithinLimits IsWithinLimits (meaning_of e w) _ (expression_kept e w behind_arrow k)
        (λ right u b lawful. (b, assigned_lawful n right u b lawful))
    expression_kept (assign_at c n l s r a e) w h k =
        let arrow = token_at a kind.Arrow in
        let right_bracket = token_at r kind.CloseBracket in
        let left_bracket = token_at l kind.OpenBracket in
        let behind_list : List Token = right_bracket ∷ arrow ∷ spells e in
        let inside = next left_bracket (spells_list s ++ behind_list) (next (token_at c (kind.Name n)) (left_bracket ∷ spells_list s ++ behind_list) h) in
        let behind_arrow = next arrow (spells e) (next right_bracket (arrow ∷ spells e) (behind (spells_list s) behind_list inside)) in
        then_kept IsWithinLimits IsWithinLimits (meaning_of e w) _ (expression_kept e w behind_arrow k)
        (λ right u b lawful. then_kept Any IsWithinLimits (meaning_of_slots s u) _ (slots_kept s u (front (spells_list s) behind_list inside) lawful)
        (λ slots v any lawful.
        let array = value_of n v in
        assign_at_kept (assign_at_result v.origin array slots right) c n a right v (results.assign_at v.origin array slots right (lawful.values n) b) b lawful))

    operand_kept : (o : Operand) (w : WorkspaceValue) → HasConstantsWithinLimits (spells_operand o) → IsLawful w → IsLawfulOutcome (meaning_of_operand o w)
    operand_kept (constant column v) w h k = (All-head WithinLimits (token_at column (kind.Constant v)) [] h, k)
    operand_kept (name column text) w h k = outcome_kept column (name_result (value_of text w)) w (name_kept (value_of text w) (k.values text)) k
    operand_kept (group l e r) w h k = expression_kept e w (between (token_at l kind.OpenParen) (token_at r kind.CloseParen) (spells e) h) k
    operand_kept (index o l s r) w h k =
        let left_bracket = token_at l kind.OpenBracket in
        let right_bracket = token_at r kind.CloseBracket in
        let list : List Token = left_bracket ∷ (spells_list s ++ right_bracket ∷ []) in
        then_kept Any IsWithinLimits (meaning_of_slots s w) _
        (slots_kept s w (between left_bracket right_bracket (spells_list s) (behind (spells_operand o) list h)) k)
        (λ slots u any lawful. then_kept IsWithinLimits IsWithinLimits (meaning_of_operand o u) _ (operand_kept o u (front (spells_operand o) list h) lawful)
        (λ array v a lawful. outcome_kept l (index_result v.origin array slots) v (results.index v.origin array slots a) lawful))

    slots_kept : (s : Slots) (w : WorkspaceValue) → HasConstantsWithinLimits (spells_list s) → IsLawful w → LeavesLawful Any (meaning_of_slots s w)
    slots_kept (last s) w h k = then_kept Any Any (meaning_of_slot s w) _ (slot_kept s w h k) (λ slot u any lawful. (tt, lawful))
    slots_kept (more s c ss) w h k =
        let semicolon = token_at c kind.Semicolon in
        let others = next semicolon (spells_list ss) (behind (spells_slot s) (semicolon ∷ spells_list ss) h) in
        then_kept Any Any (meaning_of_slots ss w) _ (slots_kept ss w others k)
        (λ slots u any lawful. then_kept Any Any (meaning_of_slot s u) _ (slot_kept s u (front (spells_slot s) (semicolon ∷ spells_list ss) h) lawful)
        (λ slot v any lawful. (tt, lawful)))

    slot_kept : (s : Slot) (w : WorkspaceValue) → HasConstantsWithinLimits (spells_slot s) → IsLawful w → LeavesLawful Any (meaning_of_slot s w)
    slot_kept nothing w h k = (tt, k)
    slot_kept (given e) w h k = then_kept IsWithinLimits Any (meaning_of e w) _ (expression_kept e w h k) (λ v u b lawful. (tt, lawful))

    axis_kept : (a : Axis) (w : WorkspaceValue) → HasConstantsWithinLimits (spells_axis a) → IsLawful w → LeavesLawful Any (meaning_of_axis a w)
    axis_kept none w h k = (tt, k)
    axis_kept (along l e r) w h k =
        then_kept IsWithinLimits Any (meaning_of e w) _
        (expression_kept e w (between (token_at l kind.OpenBracket) (token_at r kind.CloseBracket) (spells e) h) k)
        (λ v u b lawful. (tt, lawful))

  pub outcome_lawful : (tree : Expr) (w : WorkspaceValue) → HasConstantsWithinLimits (spells tree) → IsLawful w → IsLawfulOutcome (meaning_of tree w)
  outcome_lawful = expression_kept

  pub evaluated_lawful : (tree : Expr) (old new : WorkspaceValue) (result : Result Shown EvalStop) → HasConstantsWithinLimits (spells tree) → IsLawful old
      → Evaluates tree old new result → IsLawful new
  evaluated_lawful tree old new (Ok shown) h k (v, is, shows) = (subst IsLawfulOutcome is (outcome_lawful tree old h k)).1
  evaluated_lawful tree old new (Err (Error report column)) h k is = subst IsLawfulOutcome is (outcome_lawful tree old h k)
  evaluated_lawful tree old new (Err Memory) h k is = subst IsLawful (sym is) k
