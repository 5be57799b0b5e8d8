-- The reports of errors of evaluation.
use Rattle.apl_print.specs.declared.reports.Report.{Report}
use Rattle.apl_print.specs.declared.reports.Report.TheVariants.{Value, Index, Rank, Length, Domain, Limit}

-- one of the six of evaluation; the other three are of reading a line and of memory
abbrev pub IsOfEvaluation : Report → Type 0
IsOfEvaluation Value = Unit {0}
IsOfEvaluation Index = Unit {0}
IsOfEvaluation Rank = Unit {0}
IsOfEvaluation Length = Unit {0}
IsOfEvaluation Domain = Unit {0}
IsOfEvaluation Limit = Unit {0}
IsOfEvaluation _ = ⊥
