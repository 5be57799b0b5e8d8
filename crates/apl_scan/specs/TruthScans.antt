-- Scans of truth values, of either kind. No contract of a public function cites this file.
use Rattle.std.specs.Prelude.{ℤ, List, map}
use Rattle.apl_array.specs.Array.{bit}
use Rattle.apl_scan.specs.declared.truth_scans.TruthScan.{TruthScan}
use Rattle.apl_scan.specs.declared.truth_scans.TruthScan.TheVariants.{Truths, Numbers}

-- the numbers in row order
abbrev pub number_list : TruthScan → List ℤ
number_list (Truths values) = map bit values.items
number_list (Numbers values) = values.items
