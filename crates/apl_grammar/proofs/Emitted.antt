-- Operations without the empty places.
use Rattle.std.proofs.Common.{◌≡◌, ◌++◌, ◌∷◌, [], List, Option, Some, None, refl, ap, ◌∙◌}
use Rattle.std.proofs.lemmas.List.{append-nil}
use Rattle.apl_grammar.specs.declared.program.Operation.{Operation}
use Rattle.apl_grammar.specs.Automaton.{without_empty_places}

pub emitted-append : (a b : List (Option Operation)) → without_empty_places (a ++ b) ≡ without_empty_places a ++ without_empty_places b
emitted-append [] b = refl
emitted-append (None ∷ a) b = emitted-append a b
emitted-append (Some o ∷ a) b = ap (λ os. o ∷ os) (emitted-append a b)

pub emitted-some : (a : List (Option Operation)) (p : Option Operation) (o : Operation) → p ≡ Some o → without_empty_places (a ++ p ∷ []) ≡ without_empty_places a ++ o ∷ []
emitted-some a p o e = emitted-append a (p ∷ []) ∙ ap (λ p. without_empty_places a ++ without_empty_places (p ∷ [])) e

pub emitted-none : (a : List (Option Operation)) (p : Option Operation) → p ≡ None → without_empty_places (a ++ p ∷ []) ≡ without_empty_places a
emitted-none a p e = emitted-append a (p ∷ []) ∙ ap (λ p. without_empty_places a ++ without_empty_places (p ∷ [])) e ∙ append-nil (without_empty_places a)
