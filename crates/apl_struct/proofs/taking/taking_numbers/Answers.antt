use Rattle.std.proofs.Common.{◌≡◌, ℕ, false, true, length, inl, inr, rules, ap, sym, ◌∙◌, ⊎_elim, eq-eqb, Err}
use Rattle.std.specs.Prelude.{◌==◌, ◌⊎◌, nat_le}
use Rattle.std.proofs.lemmas.Bool.{cases_Bool, true≢false}
use Rattle.std.proofs.lemmas.List.{length-replicate}
use Rattle.std.proofs.lemmas.Result.{IfErr-weaker}
use Rattle.apl_array.specs.Array.{ArrayValue}
use Rattle.apl_array.specs.Shape.{most_axes, count_of}
use Rattle.apl_answer.specs.Arguments.{is_list, is_scalar, rank_of, size_of}
use Rattle.apl_struct.specs.Taking.{with_axes}
use Rattle.apl_struct.proofs.taking.taking_numbers.Goals as goal

-- a scalar has as many axes as it is given
rank_with : (b : ArrayValue) (n : ℕ) → (length b.shape ≡ 0) ⊎ (length b.shape ≡ n) → rank_of (with_axes n b) ≡ n
rank_with b n fits =
    ⊎_elim
    (λ (scalar : is_scalar b ≡ true). rw scalar (length-replicate n 1))
    (λ (other : is_scalar b ≡ false). rw other (⊎_elim (λ none. absurd (true≢false (sym (eq-eqb (length b.shape) 0 none) ∙ other))) (λ same. same) fits))
    (cases_Bool (is_scalar b))

pub returns-clause-refused : goal.returns-clause-refused
returns-clause-refused g c =
    let a = c.args.a.now in
    let n = size_of a in
    let b = with_axes n c.args.b.now in
    let list : is_list a ≡ true = search rules in
    let rank_is : c.rank-rank.result ≡ length c.args.b.now.shape = c.rank-rank.ensures.rank ∙ ap length c.shape-3.ensures.shape in
    let count_is : c.count-count.result ≡ n = c.count-count.ensures.count ∙ ap count_of c.shape-2.ensures.shape in
    let fits : (length c.args.b.now.shape ≡ 0) ⊎ (length c.args.b.now.shape ≡ n) = elim c.else-rank-ne0.either [ inl same ↦ inr (sym rank_is ∙ same.1 ∙ count_is) | inr none ↦ inl (sym rank_is ∙ none) ] in
    let axes : rank_of b ≡ n = rank_with c.args.b.now n fits in
    let rank : (n == rank_of b) ≡ true = eq-eqb n (rank_of b) (sym axes) in
    let few : nat_le (rank_of b) most_axes ≡ true = rw axes (search rules) in
    IfErr-weaker c.numbers_among.result _ _
    (λ fault told.
    elim told [
      | inl none ↦ inl (λ shape answer. rw (list, rank, few, none.1) (ap Err (sym none.0)))
      | inr memory ↦ inr memory
    ])
    c.numbers_among.ensures.refused
