-- What the reader answers is the tree's program, or the caret.
use Rattle.std.proofs.Common.{◌≡◌, ◌∷◌, [], List, Option, Some, None, refl, sym, ◌∙◌, ap, subst}
use Rattle.std.specs.Prelude.{ℕ, option_and_then}
use Rattle.apl_tokens.specs.declared.token.Token.{Token}
use Rattle.apl_grammar.specs.declared.program.Operation.{Operation}
use Rattle.apl_grammar.specs.declared.statement.GrammarStop.{GrammarStop}
use Rattle.apl_grammar.specs.declared.statement.GrammarStop.TheVariants as stop
use Rattle.apl_grammar.specs.Tree.{Expr, IsTree, spells, operations, IsProgramOf}
use Rattle.apl_grammar.specs.Caret.{IsCaret, HasNoTree}
use Rattle.apl_grammar.specs.Stops.{IsStopOf}
use Rattle.apl_grammar.specs.Automaton.{Machine, step, run, statement_operations, Stops, stuck, early, IsRefusedBy}
use Rattle.apl_grammar.proofs.Partial as partial
use Rattle.apl_grammar.proofs.Partial.{Frame, Level, operand_wanted, expression, leading_dot, leading_arrow, leading_brackets, leading_slots, Config}
use Rattle.apl_grammar.proofs.Viable.{run-tree, spells-injective, stuck-IsCaret, early-IsCaret}
use Rattle.apl_grammar.proofs.Represents.{Represents}
use Rattle.apl_grammar.proofs.Follows.{Follows, step_follows, run_follows, Ends, Ends-from_Represents}

-- the partial trees that the reader's machine represents
record Read (ts : List Token) (m : Machine) : Type 0 where
  config : Config
  ran : partial.run ts ≡ Some config
  represents : Represents config m

read_of : (ts : List Token) (m : Machine) → run ts ≡ Some m → Read ts m
read_of ts m ran = by_run (partial.run ts) (run ts) refl ran (run_follows ts)
  where
    by_run : (k : Option Config) (r : Option Machine) → partial.run ts ≡ k → r ≡ Some m → Follows k r → Read ts m
    by_run None None ek er h = absurd cc
    by_run None (Some n) ek er h = absurd h
    by_run (Some k) None ek er h = absurd cc
    by_run (Some k) (Some n) ek er h =
        let same : n ≡ m = cc in
        record { config = k; ran = ek; represents = subst (λ (x : Machine). Represents k x) same h }

ends_whole : (fr : List Frame) (l : Level) (r : Option (List Operation)) (ops : List Operation) → Ends fr l r → r ≡ Some ops → (e : Expr) × (◌≡◌ {A = Config} (fr, l) ([], expression e)) × (operations e ≡ ops)
ends_whole [] (expression e) r ops h is = (e, refl, cc)
ends_whole [] (operand_wanted w) r ops h is = absurd cc
ends_whole [] (leading_dot d c g e) r ops h is = absurd cc
ends_whole [] (leading_arrow q e) r ops h is = absurd cc
ends_whole [] (leading_brackets b x q e) r ops h is = absurd cc
ends_whole [] (leading_slots b s d q e) r ops h is = absurd cc
ends_whole (f ∷ fr) l r ops h is = absurd cc

pub is_program_of : (ts : List Token) (ops : List Operation) → option_and_then statement_operations (run ts) ≡ Some ops → IsProgramOf ts ops
is_program_of ts ops is = by_run (run ts) refl is
  where
    by_end : (m : Machine) → Read ts m → statement_operations m ≡ Some ops → IsProgramOf ts ops
    by_end m h end =
        let found : (e : Expr) × (h.config ≡ ([], expression e)) × (operations e ≡ ops) = ends_whole h.config.0 h.config.1 (statement_operations m) ops (Ends-from_Represents h.config m h.represents) end in
        let tree : IsTree found.0 × (spells found.0 ≡ ts) = run-tree ts found.0 (h.ran ∙ ap Some found.1) in
        (found.0, tree.0, found.2, tree.1, λ other is_other same. spells-injective other found.0 is_other tree.0 (same ∙ sym tree.1))

    by_run : (r : Option Machine) → run ts ≡ r → option_and_then statement_operations r ≡ Some ops → IsProgramOf ts ops
    by_run None e end = absurd cc
    by_run (Some m) e end = by_end m (read_of ts m e) end

refused : (t : Token) (k : Config) (r : Option Machine) → Follows (partial.step t k) r → r ≡ None → partial.step t k ≡ None
refused t k r h none = by_step (partial.step t k) r h none
  where
    by_step : (n : Option Config) (r : Option Machine) → Follows n r → r ≡ None → n ≡ None
    by_step None r h none = refl
    by_step (Some n) None h none = absurd h
    by_step (Some n) (Some m) h none = absurd cc

not_whole : (fr : List Frame) (l : Level) (r : Option (List Operation)) (e : Expr) → Ends fr l r → r ≡ None → ◌≡◌ {A = Config} (fr, l) ([], expression e) → ⊥
not_whole fr l r e h none same =
    let moved : Ends [] (expression e) r = subst (λ (k : Config). Ends k.0 k.1 r) same h in
    absurd cc

-- where the reader stops, the caret is, and no tree spells the tokens
pub Stops-IsCaret : (ts : List Token) (c : ℕ) → Stops ts c → IsCaret ts c × HasNoTree ts
Stops-IsCaret ts c (stuck before t after m ran fails) =
    let h : Read after m = read_of after m ran in
    stuck-IsCaret before t after h.config h.ran (refused t h.config (step t m) (step_follows t h.config m h.represents) fails)
Stops-IsCaret ts c (early t after m ran fails) =
    let h : Read (t ∷ after) m = read_of (t ∷ after) m ran in
    early-IsCaret t after h.config h.ran (λ e same. not_whole h.config.0 h.config.1 (statement_operations m) e (Ends-from_Represents h.config m h.represents) fails same)

pub is_stop_of : (ts : List Token) (s : GrammarStop) → IsRefusedBy ts s → IsStopOf ts s
is_stop_of ts (stop.Syntax c) h = Stops-IsCaret ts c h
is_stop_of ts stop.Memory h = tt
