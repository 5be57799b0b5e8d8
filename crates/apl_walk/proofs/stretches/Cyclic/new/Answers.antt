use Rattle.std.proofs.Common.{◌≡◌, ℕ, zero, suc, ◌%◌, ◌≤◌, List, [], ◌∷◌, length, slice_index_or, refl, sym, ap, ◌∙◌, arith, mod-lt}
use Rattle.std.proofs.Math.Nat.{mod-one}
use Rattle.std.proofs.lemmas.List.{get_or_default}
use Rattle.apl_walk.proofs.stretches.Cyclic.new.Goals as goal
use Rattle.apl_walk.proofs.stretches.Cyclic.new.Goals.{then-elements-gt1, else-elements-gt1}

single_value : {T : Type 0} (x : T) (k : ℕ) → slice_index_or (x ∷ []) k x ≡ x
single_value x zero = refl
single_value x (suc k) = refl

-- an only element is at each place
only_line : {T : Type 0} (xs : List T) (fill : T) (place extent : ℕ) → length xs ≤ 1
    → slice_index_or xs (place % extent) (slice_index_or xs 0 fill) ≡ slice_index_or xs (place % length xs) fill
only_line [] fill place extent few = refl
only_line (x ∷ []) fill place extent few = single_value x (place % extent) ∙ sym (ap (λ k. slice_index_or (x ∷ []) k fill) (mod-one place))
only_line (x ∷ y ∷ xs) fill place extent few = absurd (omega arith)

pub returns-clause-values : goal.returns-clause-values
returns-clause-values g c = λ place inside.
    let xs = c.args.elements.now in
    let past = c.element_or.result in
    let extent = c.if-elements-gt1.extent in
    elim c.if-elements-gt1.branch [
      | then-elements-gt1 w ↦
          let all : extent ≡ length xs = omega (arith, w.extent-is) in
          ap (λ n. slice_index_or xs (place % n) past) all ∙ get_or_default xs (place % length xs) past c.args.fill (mod-lt place (omega (arith, w.if-elements-gt1.true)))
      | else-elements-gt1 w ↦ ap (slice_index_or xs (place % extent)) c.element_or.ensures ∙ only_line xs c.args.fill place extent (omega (arith, w.if-elements-gt1.false))
    ]
