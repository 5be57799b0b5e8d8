-- What is asked of a shape and of kinds.
use Rattle.std.proofs.Common.{◌≡◌, ◌↔◌, true, List, refl, ⊎_elim}
use Rattle.std.specs.Prelude.{ℕ, ◌||◌, Bool}
use Rattle.std.proofs.lemmas.Bool.{cases_Bool}
use Rattle.apl_array.specs.declared.array.Kind.{Kind}
use Rattle.apl_array.specs.declared.array.Kind.TheVariants.{Number, Character}
use Rattle.apl_array.specs.Shape.{IsShape, is_shape}
use Rattle.apl_answer.specs.Arguments.{is_same_kind}

-- the test decides what is a shape
abbrev pub ShapeLaw : Type 0
ShapeLaw = (lengths : List ℕ) → (is_shape lengths ≡ true) ↔ IsShape lengths

pub own_kind : (kind : Kind) → is_same_kind kind kind ≡ true
own_kind Number = refl
own_kind Character = refl

pub or_true : (a b : Bool) → b ≡ true → (a || b) ≡ true
or_true a b holds = rw holds (⊎_elim (λ is. rw is refl) (λ is. rw is refl) (cases_Bool a))
