use Rattle.apl_array.proofs.Arrays.{equal_from_elements}
use Rattle.apl_array.proofs.laws.elements_determine_array.Goals as goal

pub returns : goal.returns
returns c = equal_from_elements
