-- The vector of what there is at each index.
use Rattle.std.proofs.Common.{◌≡◌, ℕ, pos, ◌/◌, ◌%◌, ◌<◌, List, [], ◌∷◌, length, map, slice_index, refl, sym, ap, ◌∙◌, arith}
use Rattle.std.specs.List.{range_with_len}
use Rattle.std.proofs.Math.Nat.{mod-eq_of_lt}
use Rattle.std.proofs.lemmas.List.{length-map, get_or-map}
use Rattle.std.proofs.lemmas.List.FromFn.{fill_by_all}
use Rattle.apl_array.specs.declared.array.Elem.{Elem}
use Rattle.apl_array.specs.declared.array.Elem.TheVariants.{Int}
use Rattle.apl_array.specs.Shape.{count_of, index_at}
use Rattle.apl_answer.specs.Pointwise.{index_lists}
use Rattle.apl_answer.specs.Arguments.{number_of}
use Rattle.apl_laws.proofs.Given.{elements_length, element_there}

-- the index list of a place of a vector
pub vector_index : (n place : ℕ) → place < n → index_at (n ∷ []) place ≡ place ∷ []
vector_index n place below =
    let whole : place / 1 ≡ place = omega arith in
    ap (λ i. i % n ∷ []) whole ∙ ap (λ i. i ∷ []) (mod-eq_of_lt below)

pub vector_by : (f : ℕ → Elem) (n : ℕ) → map (λ index. f (slice_index index 0)) (index_lists (n ∷ [])) ≡ map f (range_with_len 0 n)
vector_by f n =
    let element : List ℕ → Elem = λ index. f (slice_index index 0) in
    let count : count_of (n ∷ []) ≡ n = omega arith in
    fill_by_all f (map element (index_lists (n ∷ []))) n (Int (pos 0)) (elements_length (n ∷ []) element ∙ count)
    (λ k inside. element_there (n ∷ []) element k (omega (arith, count)) ∙ ap element (vector_index n k inside))

-- the numbers of a list by their places
pub numbers_by : (xs : List ℕ) → map number_of (map (λ index. Int (pos (slice_index xs (slice_index index 0)))) (index_lists (length xs ∷ []))) ≡ map pos xs
numbers_by xs =
    ap (map number_of)
    (vector_by (λ i. Int (pos (slice_index xs i))) (length xs)
    ∙ sym (fill_by_all (λ i. Int (pos (slice_index xs i))) (map (λ n. Int (pos n)) xs) (length xs) (Int (pos 0)) (length-map xs (λ n. Int (pos n)))
    (λ k inside. get_or-map (λ n. Int (pos n)) xs k 0 (Int (pos 0)) inside)))
    ∙ numbers_in xs
  where
    numbers_in : (ns : List ℕ) → map number_of (map (λ n. Int (pos n)) ns) ≡ map pos ns
    numbers_in [] = refl
    numbers_in (n ∷ ns) = ap (λ rest. pos n ∷ rest) (numbers_in ns)
