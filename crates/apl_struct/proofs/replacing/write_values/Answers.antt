use Rattle.std.proofs.Common.{◌≡◌, ℕ, List, ap, sym, ◌∙◌}
use Rattle.apl_array.specs.declared.array.Ravel.{Ravel}
use Rattle.apl_array.specs.Array.{ArrayValue}
use Rattle.apl_array.specs.ArrayView.{array_of}
use Rattle.apl_struct.proofs.replacing.write_values.Goals as goal

-- a copy of the shape, with the list that was taken from an array, is that array
array_again : (shape other : List ℕ) (ravel : Ravel) (a taken : ArrayValue) → shape ≡ other → other ≡ a.shape → taken ≡ a → taken ≡ array_of taken.shape ravel → array_of shape ravel ≡ a
array_again shape other ravel a taken copied own same is = ap (λ s. array_of s ravel) (copied ∙ own ∙ sym (ap (λ v. v.shape) same)) ∙ sym is ∙ same

pub with_numbers-requires-clause-elements : goal.with_numbers-requires-clause-elements
with_numbers-requires-clause-elements g c κs within =
    let again = array_again _ _ _ _ _ c.in_ok-shape.ensures.copy c.shape.ensures.shape c.replace.ensures.value c.into_ravel-ravel.ensures in
    let kinds = ap (λ v. v.kind) again ∙ c.requires.kinds in
    ap (λ v. v.kind) c.in-Err.ensures.back ∙ kinds ∙ c.in-Err.ensures.numbers c.args.b.now c.requires.values kinds

pub with_numbers-requires-clause-values : goal.with_numbers-requires-clause-values
with_numbers-requires-clause-values g c κs within =
    let again = array_again _ _ _ _ _ c.in_ok-shape.ensures.copy c.shape.ensures.shape c.replace.ensures.value c.into_ravel-ravel.ensures in
    c.in-Err.ensures.numbers c.args.b.now c.requires.values (ap (λ v. v.kind) again ∙ c.requires.kinds)

pub returns-in-Ok-clause-ok : goal.returns-in-Ok-clause-ok
returns-in-Ok-clause-ok g c =
    let again = array_again _ _ _ _ _ c.in_ok-shape.ensures.copy c.shape.ensures.shape c.replace.ensures.value c.into_ravel-ravel.ensures in
    rw (again, c.in_ok-shape.ensures.copy ∙ c.shape.ensures.shape) at (c.in-Ok.ensures.written c.args.b.now c.requires.values)
