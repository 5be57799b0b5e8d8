use Rattle.apl_scalar.proofs.Narrow.{narrow_residue}
use Rattle.apl_scalar.proofs.laws.narrow_residues_are_results.Goals as goal

pub returns : goal.returns
returns c = narrow_residue
