-- Places none of which is empty.
use Rattle.std.proofs.Common.{◌≡◌, ◌++◌, ◌∷◌, [], List, ℕ, zero, suc, Some, refl, ap}
use Rattle.std.specs.Prelude.{map, slice_set}
use Rattle.apl_grammar.specs.declared.program.Operation.{Operation}
use Rattle.apl_grammar.specs.Automaton.{without_empty_places}

pub full_append : (xs ys : List Operation) → map Some (xs ++ ys) ≡ map Some xs ++ map Some ys
full_append [] ys = refl
full_append (x ∷ xs) ys = ap (λ zs. Some x ∷ zs) (full_append xs ys)

pub full_set : (xs : List Operation) (i : ℕ) (o : Operation) → map Some (slice_set xs i o) ≡ slice_set (map Some xs) i (Some o)
full_set [] zero o = refl
full_set [] (suc i) o = refl
full_set (x ∷ xs) zero o = refl
full_set (x ∷ xs) (suc i) o = ap (λ zs. Some x ∷ zs) (full_set xs i o)

pub emitted_full : (xs : List Operation) → without_empty_places (map Some xs) ≡ xs
emitted_full [] = refl
emitted_full (x ∷ xs) = ap (λ zs. x ∷ zs) (emitted_full xs)
