-- The numbers that elements are, in 64 bits.
use Rattle.std.proofs.Common.{◌≡◌, ℤ, pos, ◌<◌, List, [], ◌∷◌, length, map, Ok, refl, sym, ◌∙◌, arith, slice_index_or}
use Rattle.std.proofs.lemmas.List.{ext_get_or, length-map}
use Rattle.apl_array.specs.declared.array.Elem.{Elem}
use Rattle.apl_array.specs.declared.array.Elem.TheVariants.{Int}
use Rattle.apl_pool.specs.Pool.{AreValues}

module _ {T : Type 0} (number : T → ℤ) where
  -- the elements are the numbers that each of them is
  pub as_numbers : (elem_of : T → Elem) (is_number : (x : T) → elem_of x ≡ Int (number x)) (elements : List T) → map elem_of elements ≡ map Int (map number elements)
  as_numbers elem_of is_number [] = refl
  as_numbers elem_of is_number (x ∷ rest) = rw (is_number x, as_numbers elem_of is_number rest) refl

  -- the numbers that were made of elements
  pub made_numbers : (elements : List T) (numbers : List ℤ) → AreValues (λ place. Ok (slice_index_or (map number elements) place (pos 0))) (length elements) numbers
      → map number elements ≡ numbers
  made_numbers elements numbers all =
      ext_get_or (pos 0) (map number elements) numbers (length-map elements number ∙ sym all.len) (λ k below.
      let inside : k < length elements = omega (arith, length-map elements number) in
      let h = all.each k (pos 0) inside in cc)
