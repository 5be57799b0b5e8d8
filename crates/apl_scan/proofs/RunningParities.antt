-- The running parities of truth values: appended to a list, and what they fold to.
use Rattle.std.proofs.Common.{◌≡◌, ℕ, zero, suc, ℤ, pos, ◌+◌, ◌<◌, Bool, true, false, not, List, [], ◌∷◌, ◌++◌, length, map, take, get_or, Result, Ok, refl, sym, ap, ◌∙◌, arith, append_assoc, take-suc}
use mathlib.Core.Bool.{beq}
use Rattle.std.proofs.lemmas.List.{length-map, map-append, take-map, get_or_default}
use Rattle.std.proofs.Math.ListN.{get_or-map}
use Rattle.apl_array.specs.declared.function.ScalarFunction.TheVariants.{NotEqual}
use Rattle.apl_array.specs.Array.{bit}
use Rattle.apl_pool.specs.declared.kernel.Fault.{Fault}
use Rattle.apl_pool.specs.Summaries.{and_then, fold_onto}
use Rattle.apl_scalar.specs.Scalar.{dyadic_numbers}
use Rattle.apl_summary.specs.Running.{HasFoldsAppended}
use Rattle.apl_scan.specs.Parities.{unequal, parity, parities}

pub unequal_is : (a b : Bool) → not (beq a b) ≡ unequal a b
unequal_is true true = refl
unequal_is true false = refl
unequal_is false true = refl
unequal_is false false = refl

pub length_parities : (before : Bool) (truths : List Bool) → length (parities before truths) ≡ length truths
length_parities before [] = refl
length_parities before (t ∷ ts) = ap (λ n. suc n) (length_parities (unequal before t) ts)

-- one more of a list
pub one_more_of : {T : Type 0} (l : List T) (k : ℕ) (d : T) → k < length l → take (k + 1) l ≡ take k l ++ get_or l k d ∷ []
one_more_of l k d within =
    let more : k + 1 ≡ suc k = omega arith in
    ap (λ n. take n l) more ∙ take-suc l k d within

pub parity_of_both : (before : Bool) (xs ys : List Bool) → parity before (xs ++ ys) ≡ parity (parity before xs) ys
parity_of_both before [] ys = refl
parity_of_both before (x ∷ xs) ys = parity_of_both (unequal before x) xs ys

parities_of_both : (before : Bool) (xs ys : List Bool) → parities before (xs ++ ys) ≡ parities before xs ++ parities (parity before xs) ys
parities_of_both before [] ys = refl
parities_of_both before (x ∷ xs) ys = ap (λ l. unequal before x ∷ l) (parities_of_both (unequal before x) xs ys)

-- after the parities of the first truth values those of the next ones
pub more_appended : (before at : Bool) (xs ys all old now new : List Bool) → all ≡ xs ++ ys → at ≡ parity before xs → now ≡ old ++ parities before xs → new ≡ now ++ parities at ys → new ≡ old ++ parities before all
more_appended before at xs ys all old now new whole of_first had appended =
    appended
    ∙ ap (λ l. l ++ parities at ys) had
    ∙ append_assoc old (parities before xs) (parities at ys)
    ∙ ap (λ b. old ++ (parities before xs ++ parities b ys)) of_first
    ∙ ap (λ l. old ++ l) (sym (parities_of_both before xs ys))
    ∙ ap (λ l. old ++ parities before l) (sym whole)

-- ---- what they fold to

abbrev step : ℤ → ℤ → Result ℤ Fault
step = dyadic_numbers NotEqual

unequal_numbers : (a b : Bool) → step (bit a) (bit b) ≡ Ok (bit (unequal a b))
unequal_numbers true true = refl
unequal_numbers true false = refl
unequal_numbers false true = refl
unequal_numbers false false = refl

unequal_three : (a b c : Bool) → unequal a (unequal b c) ≡ unequal (unequal a b) c
unequal_three true true true = refl
unequal_three true true false = refl
unequal_three true false true = refl
unequal_three true false false = refl
unequal_three false b c = refl

parity_of_first : (a b : Bool) (ts : List Bool) → parity (unequal a b) ts ≡ unequal a (parity b ts)
parity_of_first a b [] = refl
parity_of_first a b (t ∷ ts) = ap (λ x. parity x ts) (sym (unequal_three a b t)) ∙ parity_of_first a (unequal b t) ts

-- the fold of truth values and one more after them
fold_is : (ts : List Bool) (t : Bool) → fold_onto step (map bit ts) (bit t) ≡ Ok (bit (unequal (parity false ts) t))
fold_is [] t = refl
fold_is (x ∷ ts) t =
    ap (λ o. and_then o (step (bit x))) (fold_is ts t)
    ∙ unequal_numbers x (unequal (parity false ts) t)
    ∙ ap (λ (b : Bool). Ok (bit b)) (unequal_three x (parity false ts) t ∙ ap (λ b. unequal b t) (sym (parity_of_first x false ts) ∙ ap (λ b. parity b ts) (beside x)))
  where
    beside : (b : Bool) → unequal b false ≡ b
    beside true = refl
    beside false = refl

-- the parity up to a place
parity_at : (before : Bool) (truths : List Bool) (k : ℕ) → k < length truths → unequal (parity before (take k truths)) (get_or truths k false) ≡ get_or (parities before truths) k false
parity_at before [] k within = absurd (omega (arith, within))
parity_at before (t ∷ ts) zero within = refl
parity_at before (t ∷ ts) (suc k) within = parity_at (unequal before t) ts k (omega (arith, within))

-- the folds of truth values are their running parities
pub folds_appended : (truths old new : List Bool) → new ≡ old ++ parities false truths → HasFoldsAppended step (map bit truths) (map bit old) (map bit new)
folds_appended truths old new is =
    let all = parities false truths in
    record {
      folds = map bit all;
      values = ap (map bit) is ∙ map-append bit old all;
      are = λ k d inside.
          let within : k < length truths = omega (arith, inside, length-map all bit, length_parities false truths) in
          ap (λ xs. fold_onto step xs (get_or (map bit truths) k (pos 0))) (take-map bit k truths)
          ∙ ap (fold_onto step (map bit (take k truths))) (get_or-map bit truths k false)
          ∙ fold_is (take k truths) (get_or truths k false)
          ∙ ap (λ (b : Bool). Ok (bit b)) (parity_at false truths k within)
          ∙ ap (λ (z : ℤ). Ok z) (sym (get_or-map bit all k false) ∙ get_or_default (map bit all) k (pos 0) d inside);
    }
