-- A⊤B.
use Rattle.std.specs.Prelude.{ℕ, ℤ, pos, ◌+◌, List, [], ◌∷◌, ◌++◌, take, drop, Result, Err, if◌then◌else◌, slice_index, slice_index_or}
use Rattle.std.specs.Ordering.{int_eq}
use Rattle.apl_array.specs.declared.array.Elem.{Elem}
use Rattle.apl_array.specs.declared.array.Elem.TheVariants.{Int, Chr}
use Rattle.apl_array.specs.declared.array.Kind.{Kind}
use Rattle.apl_array.specs.declared.array.Kind.TheVariants.{Number, Character}
use Rattle.apl_array.specs.Shape.{is_shape}
use Rattle.apl_array.specs.Array.{ArrayValue, element_at}
use Rattle.apl_pool.specs.declared.kernel.Fault.{Fault}
use Rattle.apl_pool.specs.declared.kernel.Fault.TheVariants.{Domain}
use Rattle.apl_answer.specs.declared.fault.OpFault.TheVariants.{Rank, Limit}
use Rattle.apl_answer.specs.Arguments.{rank_of, is_list, numbers_of}
use Rattle.apl_answer.specs.Rows.{Row}
use Rattle.apl_scalar.specs.Arithmetic.{floor_quotient, residue}
use Rattle.apl_scalar.specs.Scalar.{exact, as_element}

-- what is carried past a radix: the quotient, rounded down, and nothing past radix 0
abbrev pub carried : ℤ → ℤ → ℤ
carried a c = if int_eq a (pos 0) then pos 0 else floor_quotient c a

-- what is carried past these radices, from the last to the first
abbrev pub carry_past : List ℤ → ℤ → ℤ
carry_past [] b = b
carry_past (a ∷ radices) b = carried a (carry_past radices b)

-- the digit at radix k: the residue of what the radices after it carry. It alone is tested against the range
abbrev pub digit_at : List ℤ → ℕ → ℤ → Result Elem Fault
digit_at radices k b = as_element (exact (residue (slice_index_or radices k (pos 0)) (carry_past (drop (k + 1) radices) b)))

-- characters are Domain
abbrev pub encoded : Kind → List ℤ → ℕ → Elem → Result Elem Fault
encoded Number radices k (Int b) = digit_at radices k b
encoded Number radices k (Chr c) = Err Domain
encoded Character radices k b = Err Domain

-- A⊤B: for each radix of A, and for each element of B. A scalar A is the only radix
abbrev pub encode_row : ArrayValue → ArrayValue → Row
encode_row a b =
    let shape = a.shape ++ b.shape in
    record {
      checks = (is_list a, Rank) ∷ (is_shape shape, Limit) ∷ [];
      shape = shape;
      kind = Number;
      outcome = λ index. encoded a.kind (numbers_of a) (slice_index (take (rank_of a) index) 0) (element_at b (drop (rank_of a) index));
    }
