-- Transposition: `axes` says which axis of the result each axis of a source becomes. Source axes that become one axis make a diagonal.
use Rattle.std.specs.Prelude.{◌≡◌, ℕ, ◌+◌, ◌*◌, ◌<◌, ◌≤◌, ◌==◌, if◌then◌else◌, min, List, [], ◌∷◌, length, map, sum, slice_index, All, Contains}
use Rattle.std.specs.List.{range_with_len}
use Rattle.apl_array.specs.Shape.{count_of}

-- how far apart neighbours along each axis are in row order: the product of the lengths to the right
abbrev pub strides : List ℕ → List ℕ
strides [] = []
strides (n ∷ ns) = count_of ns ∷ strides ns

-- the sum of the products of two lists, number by number
abbrev pub inner_product : List ℕ → List ℕ → ℕ
inner_product [] ys = 0
inner_product (x ∷ xs) [] = 0
inner_product (x ∷ xs) (y ∷ ys) = x * y + inner_product xs ys

-- the index list of the source: each of its axes takes the index of the axis that it becomes
abbrev pub source_index : List ℕ → List ℕ → List ℕ
source_index axes index = map (slice_index index) axes

-- of a list with an item for each source axis, the items of those that become this axis
abbrev pub items_onto : ℕ → List ℕ → List ℕ → List ℕ
items_onto axis [] items = []
items_onto axis (a ∷ axes) [] = []
items_onto axis (a ∷ axes) (x ∷ items) = if a == axis then x ∷ items_onto axis axes items else items_onto axis axes items

-- the least of some numbers, and 0 of none
abbrev pub least : List ℕ → ℕ
least [] = 0
least (n ∷ []) = n
least (n ∷ m ∷ ns) = min n (least (m ∷ ns))

-- the shape of the result: each of its axes is as long as the shortest of those that become it
abbrev pub transposed_shape : ℕ → List ℕ → List ℕ → List ℕ
transposed_shape rank axes source = map (λ axis. least (items_onto axis axes source)) (range_with_len 0 rank)

-- how far a step along each axis of the result moves the place in the source: as a step along each axis that becomes it
abbrev pub source_strides : ℕ → List ℕ → List ℕ → List ℕ
source_strides rank axes source = map (λ axis. sum (items_onto axis axes (strides source))) (range_with_len 0 rank)

-- each of the axes is below the rank
abbrev pub AreAxesBelow : ℕ → List ℕ → Type 0
AreAxesBelow rank axes = All (λ axis. axis < rank) axes

-- each axis below the rank is among the axes
abbrev pub NameEachAxis : ℕ → List ℕ → Type 0
NameEachAxis rank axes = (axis : ℕ) → axis < rank → Contains axes axis

-- each axis of the source becomes an axis of the result, which is no longer
pub record AreAxesInto (source axes result : List ℕ) : Type 0 where
  pub len : length axes ≡ length source
  pub below : (k : ℕ) → k < length source → slice_index axes k < length result
  pub fits : (k : ℕ) → k < length source → slice_index result (slice_index axes k) ≤ slice_index source k
