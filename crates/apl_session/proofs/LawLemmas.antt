-- Runs in which no line is refused.
use Rattle.std.proofs.Common.{◌≡◌, ℕ, Bool, true, false, MatchBool, if◌then◌else◌, List, [], ◌∷◌, refl, sym, ap, ◌∙◌, subst, inl, inr}
use Rattle.apl_session.specs.Lines.{without_return}
use Rattle.apl_session.specs.Run.{Answer, Semantics, IsAnswer, IsRun, IsDefinedRun, IsDeterministic, HasOneDefinedRun, IsTotal, HasDefinedRun}

module _ {W : Type 0} (semantics : Semantics W) where
  -- what comes after an answer, in two runs
  same_rest : (b : Bool) (rest others : List (Answer W)) (P Q : Type 0) → MatchBool b (rest ≡ []) P → MatchBool b (others ≡ []) Q
      → (P → Q → rest ≡ others) → rest ≡ others
  same_rest true rest others P Q none none_too same = none ∙ sym none_too
  same_rest false rest others P Q p q same = same p q

  one_run : IsDeterministic semantics → (state : W) (lines : List (List ℕ)) (answers others : List (Answer W))
      → IsDefinedRun semantics state lines answers → IsDefinedRun semantics state lines others → answers ≡ others
  one_run deterministic state [] [] [] run other = refl
  one_run deterministic state [] [] (second ∷ others) run other = absurd other
  one_run deterministic state [] (first ∷ answers) others run other = absurd run
  one_run deterministic state (line ∷ lines) [] others run other = absurd run
  one_run deterministic state (line ∷ lines) (first ∷ answers) [] run other = absurd other
  one_run deterministic state (line ∷ lines) (first ∷ answers) (second ∷ others) run other =
      let same : second ≡ first = deterministic state (without_return line) second first other.0 run.0 in
      let later = subst (λ second. MatchBool second.ends (others ≡ []) (IsDefinedRun semantics second.after lines others)) same other.1 in
      let rest = same_rest first.ends answers others (IsDefinedRun semantics first.after lines answers) (IsDefinedRun semantics first.after lines others)
      run.1 later (one_run deterministic first.after lines answers others) in
      ap (λ first. first ∷ answers) (sym same) ∙ ap (λ rest. second ∷ rest) rest

  -- a fact for both cases of a test
  either_way : (b : Bool) (P Q R : Type 0) → MatchBool b P Q → (Q → R) → MatchBool b P R
  either_way true P Q R p follows = p
  either_way false P Q R q follows = follows q

  defined_is_run : (state : W) (lines : List (List ℕ)) (answers : List (Answer W)) → IsDefinedRun semantics state lines answers → IsRun semantics state lines answers
  defined_is_run state [] [] run = tt
  defined_is_run state [] (answer ∷ answers) run = absurd run
  defined_is_run state (line ∷ lines) [] run = absurd run
  defined_is_run state (line ∷ lines) (answer ∷ answers) run =
      (inl run.0, either_way answer.ends _ _ _ run.1 (defined_is_run answer.after lines answers))

  pub one_defined_run_lem : IsDeterministic semantics → HasOneDefinedRun W semantics
  one_defined_run_lem deterministic = record { one = one_run deterministic; is_run = defined_is_run }

  -- the answers after one that may end the run
  after_answer : (b : Bool) (later : List (Answer W)) (P : List (Answer W) → Type 0) → P later
      → MatchBool b ((if b then [] else later) ≡ []) (P (if b then [] else later))
  after_answer true later P p = refl
  after_answer false later P p = p

  pub some_defined_run_lem : (IsLawful : W → Type 0) → IsTotal IsLawful semantics → HasDefinedRun W IsLawful semantics
  some_defined_run_lem IsLawful total state [] lawful = ([], tt)
  some_defined_run_lem IsLawful total state (line ∷ lines) lawful =
      let first = total state (without_return line) lawful in
      let later = some_defined_run_lem IsLawful total first.0.after lines first.2 in (
        first.0 ∷ (if first.0.ends then [] else later.0),
        (first.1, after_answer first.0.ends later.0 (IsDefinedRun semantics first.0.after lines) later.1),
      )

  -- each answer leaves the state lawful, where some step does and there is no other
  pub answer_lawful_lem : (IsLawful : W → Type 0) → IsDeterministic semantics → IsTotal IsLawful semantics
      → (state : W) (line : List ℕ) (answer : Answer W) → IsLawful state → IsAnswer semantics state line answer → IsLawful answer.after
  answer_lawful_lem IsLawful deterministic total state line answer lawful (inl step) =
      let found = total state (without_return line) lawful in
      subst (λ (a : Answer W). IsLawful a.after) (deterministic state (without_return line) found.0 answer found.1 step) found.2
  answer_lawful_lem IsLawful deterministic total state line answer lawful (inr (is, refusable)) =
      subst (λ (a : Answer W). IsLawful a.after) (sym is) lawful
