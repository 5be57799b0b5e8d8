use Rattle.apl_array.proofs.Transpositions.{IsIndexOf-source_index, place_of-source_index, AreAxesInto-transposed_shape, source_index-reverse}
use Rattle.apl_array.proofs.TransposedShapes.{IsShape-transposed_shape}
use Rattle.apl_array.proofs.laws.transposed_index_has_place.Goals as goal

pub returns-clause-lawful : goal.returns-clause-lawful
returns-clause-lawful c = IsIndexOf-source_index

pub returns-clause-place : goal.returns-clause-place
returns-clause-place c = place_of-source_index

pub returns-clause-fits : goal.returns-clause-fits
returns-clause-fits c = AreAxesInto-transposed_shape

pub returns-clause-shape : goal.returns-clause-shape
returns-clause-shape c = IsShape-transposed_shape

pub returns-clause-reversed : goal.returns-clause-reversed
returns-clause-reversed c = source_index-reverse
