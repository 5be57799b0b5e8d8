-- Shapes that are lawful because another is, and elements of results that are in the range.
use Rattle.std.proofs.Common.{◌≡◌, ℕ, ◌-◌, ◌<◌, ◌≤◌, List, [], ◌∷◌, length, reverse, slice_index, sym, subst, ⊎_elim, arith, ◌+◌, pos, Bool, true, false, if◌then◌else◌, Option, Some, None, nat_lt, slice_set}
use Rattle.std.proofs.lemmas.Bool.{cases_lt}
use Rattle.std.proofs.lemmas.List.{length-reverse, get_or-reverse, get_or_past}
use Rattle.std.proofs.lemmas.List.Elements.{All-nil, All-cons}
use Rattle.apl_array.specs.Shape.{IsShape, most_elements, count_of, place_of}
use Rattle.std.proofs.lemmas.Int.{ints}
use Rattle.apl_array.specs.declared.array.Elem.{Elem}
use Rattle.apl_array.specs.declared.array.Elem.TheVariants.{Int}
use Rattle.apl_array.specs.declared.array.Kind.{Kind}
use Rattle.apl_array.specs.declared.array.Kind.TheVariants.{Number, Character}
use Rattle.apl_array.specs.declared.axis.Origin.{Origin}
use Rattle.apl_array.specs.declared.axis.Origin.TheVariants.{Zero, One}
use Rattle.apl_array.specs.Axes.{origin_number}
use Rattle.apl_array.specs.Array.{ArrayValue, element_in, element_at}
use Rattle.apl_array.specs.Range.{IsInRange, IsElementInRange, HasNumbersInRange}
use Rattle.apl_answer.specs.Arguments.{has_one_element, fill_of}
use Rattle.apl_struct.specs.Gathering.{element_or_fill}
use Rattle.apl_struct.specs.Joining.{slices_source, catenated_element}
use Rattle.apl_struct.specs.Indexing.{replaced_element}

-- ---- shapes

pub lawful_vector : (n : ℕ) → n ≤ most_elements → IsShape (n ∷ [])
lawful_vector n most = record {
  rank = omega arith;
  axes = All-cons (λ m. m ≤ most_elements) n [] most (All-nil (λ m. m ≤ most_elements));
  count = omega (arith, most);
}

pub lawful_reverse : (shape : List ℕ) → count_of (reverse shape) ≡ count_of shape → IsShape shape → IsShape (reverse shape)
lawful_reverse shape same lawful = record {
  rank = omega (arith, lawful.rank, length-reverse shape);
  axes = λ k d inside.
      let below : k < length shape = omega (arith, inside, length-reverse shape) in
      let P : ℕ → Type 0 = λ n. n ≤ most_elements in
      subst P (sym (get_or-reverse shape k d below)) (lawful.axes (length shape - 1 - k) d (omega (arith, below)));
  count = omega (arith, lawful.count, same);
}

-- an axis, of which there may be none
pub axis_most : (shape : List ℕ) (k : ℕ) → IsShape shape → slice_index shape k ≤ most_elements
axis_most shape k lawful =
    ⊎_elim
    (λ within. lawful.axes k 0 within)
    (λ past. rw (get_or_past shape k 0 past) (omega arith))
    (cases_lt k (length shape))

-- ---- elements

-- a count or a length, and one more
pub natural_in : (n : ℕ) → n ≤ most_elements + 1 → IsInRange (pos n)
natural_in n most = record { least = omega (arith, ints); greatest = omega (arith, ints, most) }

pub origin_most : (origin : Origin) → origin_number origin ≤ 1
origin_most Zero = omega arith
origin_most One = omega arith

pub either_in : (b : Bool) (x y : Elem) → IsElementInRange x → IsElementInRange y → IsElementInRange (if b then x else y)
either_in true x y h k = h
either_in false x y h k = k

-- the element at a place, and 0 beside the array
pub element_in_in : (b : ArrayValue) (place : ℕ) → HasNumbersInRange b → IsElementInRange (element_in b place)
element_in_in b place h =
    ⊎_elim
    (λ within. h place (Int (pos 0)) within)
    (λ past. rw (get_or_past b.ravel place (Int (pos 0)) past) (natural_in 0 (omega arith)))
    (cases_lt place (length b.ravel))

pub element_at_in : (b : ArrayValue) (index : List ℕ) → HasNumbersInRange b → IsElementInRange (element_at b index)
element_at_in b index h = element_in_in b (place_of b.shape index) h

fill_in : (kind : Kind) → IsElementInRange (fill_of kind)
fill_in Number = natural_in 0 (omega arith)
fill_in Character = tt

pub element_or_fill_in : (b : ArrayValue) (source : Option (List ℕ)) → HasNumbersInRange b → IsElementInRange (element_or_fill b source)
element_or_fill_in b (Some index) h = element_at_in b index h
element_or_fill_in b None h = fill_in b.kind

pub catenated_in : (rank k n : ℕ) (a b : ArrayValue) (index : List ℕ) → HasNumbersInRange a → HasNumbersInRange b → IsElementInRange (catenated_element rank k n a b index)
catenated_in rank k n a b index h g =
    let i = slice_index index k in
    either_in (nat_lt i n) _ _ (element_at_in a (slices_source rank k a index) h) (element_at_in b (slices_source rank k b (slice_set index k (i - n))) g)

pub replaced_in : (a b : ArrayValue) (index : List ℕ) (choice : Option ℕ) → HasNumbersInRange a → HasNumbersInRange b → IsElementInRange (replaced_element a b index choice)
replaced_in a b index (Some place) h g = either_in (has_one_element b.shape) _ _ (element_in_in b 0 g) (element_in_in b place g)
replaced_in a b index None h g = element_at_in a index h
