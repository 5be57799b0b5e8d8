-- The greatest and the least of neighbours and a total, and of both halves of them.
use Rattle.std.proofs.Common.{◌≡◌, ℕ, zero, suc, ℤ, pos, ◌+◌, ◌*◌, List, map, Ok, refl, sym, ap, ◌∙◌, slice_index_or, arith}
use Rattle.std.proofs.Math.ListN.{get_or-map}
use Rattle.apl_array.specs.declared.array.Elem.{Elem}
use Rattle.apl_array.specs.declared.array.Elem.TheVariants.{Int}
use Rattle.apl_array.specs.declared.function.ScalarFunction.{ScalarFunction}
use Rattle.apl_scalar.specs.Scalar.{dyadic_of}
use Rattle.apl_reduce.specs.ExtremeFolds.{IsExtreme}
use Rattle.apl_reduce.specs.Folded.{number_step, folded_onto}
use Rattle.apl_reduce.specs.Items.{item_in}
use Rattle.apl_reduce.proofs.Folds.{two_runs, two_halves}

module _ (f : ScalarFunction) (two : ℤ → ℤ → ℤ) (laws : IsExtreme f two) (numbers : List ℤ) where
  abbrev item : ℕ → Elem
  item = item_in (map Int numbers)

  abbrev number : ℕ → ℤ
  number k = slice_index_or numbers k (pos 0)

  abbrev all_onto : (k n : ℕ) → ℤ → ℤ
  all_onto k zero total = total
  all_onto k (suc n) total = two (number k) (all_onto (suc k) n total)

  steps_to : (k : ℕ) (total : ℤ) → number_step f (item k) (Ok total) ≡ Ok (two (number k) total)
  steps_to k total = ap (λ x. dyadic_of f x (Int total)) (get_or-map Int numbers k (pos 0)) ∙ laws.is (number k) total

  folds_to : (k n : ℕ) (total : ℤ) → folded_onto f item k n (Ok total) ≡ Ok (all_onto k n total)
  folds_to k zero total = refl
  folds_to k (suc n) total = ap (number_step f (item k)) (folds_to (suc k) n total) ∙ steps_to k (all_onto (suc k) n total)

  exchanged : (x y z : ℤ) → two x (two y z) ≡ two y (two x z)
  exchanged x y z = laws.grouped x y z ∙ ap (λ i. two i z) (laws.turned x y) ∙ sym (laws.grouped y x z)

  first_or_last : (k n : ℕ) (x total : ℤ) → all_onto k n (two x total) ≡ two x (all_onto k n total)
  first_or_last k zero x total = refl
  first_or_last k (suc n) x total = ap (two (number k)) (first_or_last (suc k) n x total) ∙ exchanged (number k) x (all_onto (suc k) n total)

  pub one_more : (first k : ℕ) (total so_far : ℤ) → folded_onto f item first k (Ok total) ≡ Ok so_far
      → folded_onto f item first (k + 1) (Ok total) ≡ Ok (two (number (first + k)) so_far)
  one_more first k total so_far before =
      let more : k + 1 ≡ k + suc zero = omega arith in
      let folded : Ok (all_onto first k total) ≡ Ok so_far = sym (folds_to first k total) ∙ before in
      let same : all_onto first k total ≡ so_far = cc in
      ap (λ n. folded_onto f item first n (Ok total)) more ∙ two_runs f item first k (suc zero) (Ok total)
      ∙ ap (folded_onto f item first k) (steps_to (first + k) total)
      ∙ folds_to first k (two (number (first + k)) total)
      ∙ ap (λ z. Ok z) (first_or_last first k (number (first + k)) total ∙ ap (two (number (first + k))) same)

  absorbed : (k n : ℕ) (total : ℤ) → two (all_onto k n total) total ≡ all_onto k n total
  absorbed k zero total = laws.alone total
  absorbed k (suc n) total = sym (laws.grouped (number k) (all_onto (suc k) n total) total) ∙ ap (two (number k)) (absorbed (suc k) n total)

  is_onto : (k n : ℕ) (total all : ℤ) → folded_onto f item k n (Ok total) ≡ Ok all → all_onto k n total ≡ all
  is_onto k n total all folded = let same : Ok (all_onto k n total) ≡ Ok all = sym (folds_to k n total) ∙ folded in cc

  -- onto what another run gave of the same total
  beyond : (j k n : ℕ) (total other : ℤ) → all_onto j n total ≡ other → all_onto k n other ≡ two other (all_onto k n total)
  beyond j k n total other is_other =
      let both : two other total ≡ other = ap (λ i. two i total) (sym is_other) ∙ absorbed j n total ∙ is_other in
      ap (all_onto k n) (sym both) ∙ first_or_last k n other total

  -- what two runs give together of a total, by what each gives of it
  both_joined : (a b n : ℕ) (total w x : ℤ) → folded_onto f item a n (Ok total) ≡ Ok w → folded_onto f item b n (Ok total) ≡ Ok x
      → folded_onto f item a n (folded_onto f item b n (Ok total)) ≡ Ok (two w x)
  both_joined a b n total w x at_a at_b =
      let is_w = is_onto a n total w at_a in
      let is_x = is_onto b n total x at_b in
      let both : all_onto a n x ≡ two w x = beyond b a n total x is_x ∙ ap (two x) is_w ∙ laws.turned x w in
      ap (folded_onto f item a n) at_b ∙ folds_to a n x ∙ ap (λ (i : ℤ). Ok i) both

  pub of_both : (first n : ℕ) (total w x : ℤ) → folded_onto f item first n (Ok total) ≡ Ok w → folded_onto f item (first + n) n (Ok total) ≡ Ok x
      → folded_onto f item first (2 * n) (Ok total) ≡ Ok (two w x)
  of_both first n total w x at_w at_x = two_halves f item first n (Ok total) ∙ both_joined first (first + n) n total w x at_w at_x
