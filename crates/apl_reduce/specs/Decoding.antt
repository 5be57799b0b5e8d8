-- A⊥B.
use Rattle.std.specs.Prelude.{ℕ, ℤ, pos, ◌+◌, ◌+ℤ◌, ◌*ℤ◌, List, [], ◌∷◌, take, Bool, ◌||◌, ◌&&◌, ◌==◌, Result, Ok, Err, if◌then◌else◌, replicate}
use Rattle.std.specs.List.{list_all, range_with_len}
use Rattle.apl_array.specs.declared.array.Elem.{Elem}
use Rattle.apl_array.specs.declared.array.Elem.TheVariants.{Int}
use Rattle.apl_array.specs.declared.array.Kind.TheVariants.{Number}
use Rattle.apl_array.specs.Array.{ArrayValue}
use Rattle.apl_array.specs.Range.{in_range}
use Rattle.apl_pool.specs.declared.kernel.Fault.{Fault}
use Rattle.apl_pool.specs.declared.kernel.Fault.TheVariants.{Limit}
use Rattle.apl_answer.specs.declared.fault.OpFault.TheVariants.{Rank, Length, Domain}
use Rattle.apl_answer.specs.Arguments.{size_of, is_list, is_number_kind, has_one_element, number_of, numbers_of, only_element}
use Rattle.apl_answer.specs.Rows.{Row}

-- the product of a list
abbrev pub product : List ℤ → ℤ
product [] = pos 1
product (a ∷ more) = a *ℤ product more

-- the sum of each digit times the product of the radices after its own
abbrev pub value_of : List ℤ → List ℤ → ℤ
value_of [] digits = pos 0
value_of (a ∷ radices) [] = pos 0
value_of (a ∷ radices) (b ∷ digits) = (b *ℤ product radices) +ℤ value_of radices digits

-- the value of all n digits, and Limit if the value of the first k of them is outside the range for some k
abbrev pub decoded : ℕ → List ℤ → List ℤ → Result Elem Fault
decoded n radices digits =
    if list_all (λ k. in_range (value_of (take k radices) (take k digits))) (range_with_len 0 (n + 1))
    then Ok (Int (value_of radices digits)) else Err Limit

-- both arguments have as many digits, or one of them has one element
abbrev pub have_digits_alike : ArrayValue → ArrayValue → Bool
have_digits_alike a b = has_one_element a.shape || (has_one_element b.shape || (size_of a == size_of b))

-- how many digits there are: an argument of one element serves all of the other's
abbrev pub decode_length : ArrayValue → ArrayValue → ℕ
decode_length a b = if has_one_element a.shape then size_of b else size_of a

-- the numbers of an argument, the only one of which serves n times
abbrev pub extended_to : ℕ → ArrayValue → List ℤ
extended_to n a = if has_one_element a.shape then replicate n (number_of (only_element a)) else numbers_of a

-- A⊥B, a scalar of two lists
abbrev pub decode_row : ArrayValue → ArrayValue → Row
decode_row a b =
    let n = decode_length a b in
    record {
      checks = (is_list a && is_list b, Rank) ∷ (have_digits_alike a b, Length)
          ∷ ((n == 0) || (is_number_kind a.kind && is_number_kind b.kind), Domain) ∷ [];
      shape = [];
      kind = Number;
      outcome = λ index. decoded n (extended_to n a) (extended_to n b);
    }
