-- A/B where each count is 0 or above. No contract of a public function cites this file.
use Rattle.std.specs.Prelude.{◌≡◌, ℕ, ℤ, ◌<◌, ◌≤◌, ◌⊎◌, true, false, List, map, Result, MatchResult, Ok, Err, if◌then◌else◌, slice_index, slice_set, sum}
use Rattle.std.specs.List.{list_all}
use Rattle.apl_array.specs.Axes.{place_number}
use Rattle.apl_array.specs.Shape.{is_shape, most_elements}
use Rattle.apl_array.specs.Array.{ArrayValue, element_at}
use Rattle.apl_answer.specs.declared.fault.OpFault.{OpFault}
use Rattle.apl_answer.specs.declared.fault.OpFault.TheVariants.{Domain, Limit}
use Rattle.apl_answer.specs.Arguments.{is_natural}
use Rattle.apl_answer.specs.Pointwise.{answer_of}
use Rattle.apl_struct.specs.Gathering.{along_axis}
use Rattle.apl_struct.specs.Compressing.{repeated_indexes}

-- each index of axis k as often as its count says, where no limit is passed
abbrev pub replicated : ArrayValue → ℕ → List ℕ → Result ArrayValue OpFault
replicated c k counts =
    let shape = slice_set c.shape k (sum counts) in
    if is_shape shape then answer_of shape (λ index. Ok (element_at c (along_axis k (slice_index (repeated_indexes counts)) index))) c.kind else Err Limit

-- The sum of counts. If one is below 0 it is `Domain`, and else `Limit` if the sum is past the most elements.
abbrev pub IsSumOf : List ℤ → Result ℕ OpFault → Type 0
IsSumOf counts result = MatchResult result
    (λ n. (list_all is_natural counts ≡ true) × (n ≡ sum (map place_number counts)) × (n ≤ most_elements))
    (λ fault. ((fault ≡ Domain) × (list_all is_natural counts ≡ false)) ⊎ ((fault ≡ Limit) × (list_all is_natural counts ≡ true) × (most_elements < sum (map place_number counts))))
