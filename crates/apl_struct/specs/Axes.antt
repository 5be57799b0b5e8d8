-- What an axis argument is read as.
use Rattle.std.specs.Prelude.{ℤ, not, Result, Ok, Err, if◌then◌else◌}
use Rattle.apl_array.specs.Array.{ArrayValue}
use Rattle.apl_answer.specs.declared.fault.OpFault.{OpFault}
use Rattle.apl_answer.specs.declared.fault.OpFault.TheVariants.{Rank, Length, Domain}
use Rattle.apl_answer.specs.Arguments.{is_list, has_one_element, is_number_kind, number_of, only_element}

-- the only element of a vector or a scalar, a number
abbrev pub axis_number_of : ArrayValue → Result ℤ OpFault
axis_number_of a =
    if not (is_list a) then Err Rank
    else if not (has_one_element a.shape) then Err Length
    else if not (is_number_kind a.kind) then Err Domain
    else Ok (number_of (only_element a))
