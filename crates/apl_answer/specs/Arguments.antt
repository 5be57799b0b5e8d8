-- What the checks ask of an argument.
use Rattle.std.specs.Prelude.{ℕ, ℤ, pos, negsuc, List, map, length, Bool, true, false, not, ◌||◌, ◌==◌, nat_eq, nat_le}
use Rattle.std.specs.Cmp.Lexicographic.{pointwise}
use Rattle.std.specs.Ordering.{int_eq}
use Rattle.apl_array.specs.declared.array.Elem.{Elem}
use Rattle.apl_array.specs.declared.array.Elem.TheVariants.{Int, Chr}
use Rattle.apl_array.specs.declared.array.Kind.{Kind}
use Rattle.apl_array.specs.declared.array.Kind.TheVariants.{Number, Character}
use Rattle.apl_array.specs.Shape.{count_of}
use Rattle.apl_array.specs.Array.{ArrayValue, element_in}

-- how many axes it has
abbrev pub rank_of : ArrayValue → ℕ
rank_of a = length a.shape

-- how many elements it has
abbrev pub size_of : ArrayValue → ℕ
size_of a = count_of a.shape

-- the array is not empty
abbrev pub has_elements : ArrayValue → Bool
has_elements a = not (size_of a == 0)

-- an array of this shape has one element
abbrev pub has_one_element : List ℕ → Bool
has_one_element shape = count_of shape == 1

-- the test whether two shapes are equal
abbrev pub is_same_shape : List ℕ → List ℕ → Bool
is_same_shape = pointwise nat_eq

-- the array has no axis
abbrev pub is_scalar : ArrayValue → Bool
is_scalar a = rank_of a == 0

-- a vector or a scalar
abbrev pub is_list : ArrayValue → Bool
is_list a = nat_le (rank_of a) 1

-- the kind is that of numbers
abbrev pub is_number_kind : Kind → Bool
is_number_kind Number = true
is_number_kind Character = false

-- both kinds are equal
abbrev pub is_same_kind : Kind → Kind → Bool
is_same_kind Number kind = is_number_kind kind
is_same_kind Character kind = not (is_number_kind kind)

-- of numbers, or without elements
abbrev pub is_numbers : ArrayValue → Bool
is_numbers a = is_number_kind a.kind || not (has_elements a)

-- the number that an element is, and 0 for a character
abbrev pub number_of : Elem → ℤ
number_of (Int n) = n
number_of (Chr c) = pos 0

-- the numbers of an array, in row order
abbrev pub numbers_of : ArrayValue → List ℤ
numbers_of a = map number_of a.ravel

-- 0 and above
abbrev pub is_natural : ℤ → Bool
is_natural (pos n) = true
is_natural (negsuc n) = false

-- 0 or 1
abbrev pub is_bit : ℤ → Bool
is_bit z = int_eq z (pos 0) || int_eq z (pos 1)

-- the fill of this kind: 0, or the blank
abbrev pub fill_of : Kind → Elem
fill_of Number = Int (pos 0)
fill_of Character = Chr 32

-- the only element of an array that has one
abbrev pub only_element : ArrayValue → Elem
only_element a = element_in a 0
