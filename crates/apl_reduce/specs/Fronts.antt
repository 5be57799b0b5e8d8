-- The first digits of a decode, and an element that serves all digits. No contract of a public function cites this file.
use Rattle.std.specs.Prelude.{ℕ, ℤ, pos, ◌+◌, Bool, List, take, replicate, Result, Ok, Err, slice_index_or, if◌then◌else◌}
use Rattle.std.specs.List.{list_all, range_with_len}
use Rattle.apl_array.specs.declared.array.Elem.{Elem}
use Rattle.apl_array.specs.Range.{in_range}
use Rattle.apl_pool.specs.declared.kernel.Fault.{Fault}
use Rattle.apl_pool.specs.declared.kernel.Fault.TheVariants.{Limit}
use Rattle.apl_reduce.specs.Decoding.{value_of, decoded}

-- these numbers, of which the first serves all n digits if it is single
abbrev pub served : ℕ → Bool → List ℤ → List ℤ
served n is_single numbers = if is_single then replicate n (slice_index_or numbers 0 (pos 0)) else numbers

-- the value of n digits, and of radices, that are served so
abbrev pub served_value : ℕ → (is_single : Bool) → List ℤ → (is_one : Bool) → List ℤ → Result Elem Fault
served_value n is_single radices is_one digits = decoded n (served n is_single radices) (served n is_one digits)

-- the value of the first k digits
abbrev pub front_value : List ℤ → List ℤ → ℕ → ℤ
front_value radices digits k = value_of (take k radices) (take k digits)

-- the value of all n digits, and Limit if that of the first k of them is outside the range for some k
abbrev pub decoded_number : ℕ → List ℤ → List ℤ → Result ℤ Fault
decoded_number n radices digits =
    if list_all (λ k. in_range (front_value radices digits k)) (range_with_len 0 (n + 1)) then Ok (value_of radices digits) else Err Limit
