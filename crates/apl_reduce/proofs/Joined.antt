-- Places and index lists of a shape that joins two.
use Rattle.std.proofs.Common.{◌≡◌, ℕ, ℤ, ◌*◌, ◌/◌, ◌%◌, ◌<◌, List, ◌++◌, length, take, drop, Result, Ok, Err, refl, arith}
use Rattle.std.proofs.Math.Nat.{div-lt_iff_lt-mul, mod-lt}
use Rattle.std.proofs.Math.Seq.{take-append_seam, drop-append_seam}
use Rattle.apl_array.specs.declared.array.Elem.TheVariants.{Int}
use Rattle.apl_array.specs.Shape.{IsIndexOf, count_of, place_of, index_at}
use Rattle.apl_pool.specs.declared.kernel.Fault.{Fault}
use Rattle.apl_answer.specs.Elements.{element_outcome}
use Rattle.apl_scalar.specs.Scalar.{as_element}

pub outcome_is_element : (r : Result ℤ Fault) → element_outcome Int r ≡ as_element r
outcome_is_element (Ok z) = refl
outcome_is_element (Err fault) = refl

-- the laws of places that the products use
pub record PlaceLaws : Type 0 where
  pub lawful : (shape : List ℕ) (place : ℕ) → place < count_of shape → IsIndexOf shape (index_at shape place)
  pub same_place : (shape : List ℕ) (place : ℕ) → place < count_of shape → place_of shape (index_at shape place) ≡ place
  pub index : (a b : List ℕ) (place : ℕ) → place < count_of a * count_of b → index_at (a ++ b) place ≡ index_at a (place / count_of b) ++ index_at b (place % count_of b)

-- a place of a joined shape, as one of each of the two shapes
pub record AreParts (a b : List ℕ) (place : ℕ) : Type 0 where
  pub index : index_at (a ++ b) place ≡ index_at a (place / count_of b) ++ index_at b (place % count_of b)
  pub row : place / count_of b < count_of a
  pub column : place % count_of b < count_of b
  pub len : length (index_at a (place / count_of b)) ≡ length a
  pub left : place_of a (index_at a (place / count_of b)) ≡ place / count_of b
  pub right : place_of b (index_at b (place % count_of b)) ≡ place % count_of b

pub some_columns : (m n place : ℕ) → place < m * n → 0 < n
some_columns m n place inside = grind arith

module _ (laws : PlaceLaws) where
  pub parts_of : (a b : List ℕ) (place : ℕ) → place < count_of a * count_of b → AreParts a b place
  parts_of a b place inside =
      let some : 0 < count_of b = some_columns (count_of a) (count_of b) place inside in
      let row : place / count_of b < count_of a = (div-lt_iff_lt-mul some).1 inside in
      let column : place % count_of b < count_of b = mod-lt place some in
      record {
        index = laws.index a b place inside;
        row = row;
        column = column;
        len = (laws.lawful a (place / count_of b) row).len;
        left = laws.same_place a (place / count_of b) row;
        right = laws.same_place b (place % count_of b) column;
      }

pub taken_part : (i j : List ℕ) (n : ℕ) → length i ≡ n → take n (i ++ j) ≡ i
taken_part i j n len = rw (← len) (take-append_seam i j)

pub dropped_part : (i j : List ℕ) (n : ℕ) → length i ≡ n → drop n (i ++ j) ≡ j
dropped_part i j n len = rw (← len) (drop-append_seam i j)
