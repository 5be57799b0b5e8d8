use Rattle.apl_array.proofs.Shapes.{is_shape-from_IsShape, IsShape-from_is_shape}
use Rattle.apl_array.proofs.laws.shape_is_decided.Goals as goal

pub returns : goal.returns
returns c = λ lengths. (IsShape-from_is_shape lengths, is_shape-from_IsShape lengths)
