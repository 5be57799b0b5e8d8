-- A\B where A is of truth values. No contract of a public function cites this file.
use Rattle.std.specs.Prelude.{ℕ, ◌==◌, List, Result, Ok, Err, if◌then◌else◌, length, slice_index, slice_set, sum}
use Rattle.apl_array.specs.Shape.{is_shape}
use Rattle.apl_array.specs.Array.{ArrayValue}
use Rattle.apl_answer.specs.declared.fault.OpFault.{OpFault}
use Rattle.apl_answer.specs.declared.fault.OpFault.TheVariants.{Length, Limit}
use Rattle.apl_answer.specs.Pointwise.{answer_of}
use Rattle.apl_struct.specs.Gathering.{element_or_fill, along_axis_or_none}
use Rattle.apl_struct.specs.Compressing.{expanded_index}

-- the next index of axis k at each 1 and a fill at each 0, if the axis has as many indexes as there are ones and no limit is passed
abbrev pub expanded : ArrayValue → ℕ → List ℕ → Result ArrayValue OpFault
expanded c k bits =
    let shape = slice_set c.shape k (length bits) in
    if sum bits == slice_index c.shape k then (if is_shape shape then answer_of shape (λ index. Ok (element_or_fill c (along_axis_or_none k (expanded_index bits) index))) c.kind else Err Limit) else Err Length
