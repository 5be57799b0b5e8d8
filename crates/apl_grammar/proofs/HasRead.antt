-- A token read, and the end of the tokens.
use Rattle.std.proofs.Common.{◌≡◌, ◌<◌, ◌++◌, ◌∷◌, [], List, Some, None, refl, sym, ◌∙◌, ap, subst, append_assoc, length, arith}
use Rattle.std.specs.Prelude.{ℕ, option_and_then}
use Rattle.apl_tokens.specs.declared.token.Token.{Token}
use Rattle.apl_grammar.specs.declared.program.Operation.{Operation}
use Rattle.apl_grammar.specs.Automaton.{Machine, step, run, statement_operations, Stops, stuck, early, HasRead, first_column}

module _ (all rest before : List Token) (t : Token) (m : Machine) (first : ℕ) (popped : before ≡ rest ++ t ∷ []) (read : HasRead all before m first) where
  split_more : all ≡ rest ++ t ∷ read.done
  split_more = read.split ∙ ap (λ x. x ++ read.done) popped ∙ append_assoc rest (t ∷ []) read.done

  pub HasRead-more : (n : Machine) → step t m ≡ Some n → HasRead all rest n t.column
  HasRead-more n e = record { done = t ∷ read.done; split = split_more; ran = ap (option_and_then (step t)) read.ran ∙ e; column = refl }

  pub HasRead-stuck : step t m ≡ None → Stops all t.column
  HasRead-stuck e =
      subst (λ (x : List Token). Stops x t.column) (sym split_more) (stuck rest t read.done m read.ran e)

-- where all of some tokens were read, and they are no statement
early_of : (done : List Token) (m : Machine) → 0 < length done → run done ≡ Some m → statement_operations m ≡ None → Stops done (first_column done)
early_of [] m some ran not = absurd (omega (arith, some))
early_of (t ∷ ts) m some ran not = early t ts m ran not

pub HasRead-early : (all rest : List Token) (m : Machine) (first : ℕ) → 0 < length all → rest ≡ [] → HasRead all rest m first → statement_operations m ≡ None → Stops all first
HasRead-early all rest m first some none read not =
    let same : all ≡ read.done = read.split ∙ ap (λ x. x ++ read.done) none in
    let some_read : 0 < length read.done = subst (λ (x : List Token). 0 < length x) same some in
    subst (λ (c : ℕ). Stops all c) (sym read.column) (subst (λ (x : List Token). Stops x (first_column read.done)) (sym same) (early_of read.done m some_read read.ran not))

pub HasRead-end : (all rest : List Token) (m : Machine) (first : ℕ) → rest ≡ [] → HasRead all rest m first → run all ≡ Some m
HasRead-end all rest m first none read = ap run (read.split ∙ ap (λ x. x ++ read.done) none) ∙ read.ran

pub HasRead-finished : (all rest : List Token) (m : Machine) (first : ℕ) (os : List Operation) → rest ≡ [] → HasRead all rest m first → statement_operations m ≡ Some os → option_and_then statement_operations (run all) ≡ Some os
HasRead-finished all rest m first os none read e = ap (option_and_then statement_operations) (HasRead-end all rest m first none read) ∙ e

pub empty_list : {A : Type 0} (xs : List A) → length xs ≡ 0 → xs ≡ []
empty_list [] e = refl
empty_list (x ∷ xs) e = absurd (omega (arith, e))
