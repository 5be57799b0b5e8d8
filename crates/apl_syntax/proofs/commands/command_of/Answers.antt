use Rattle.std.proofs.Common.{sym, ◌∙◌}
use Rattle.std.proofs.lemmas.Slice.Eq.{slice_eq-Decides}
use Rattle.std.proofs.lemmas.Bool.Decides.{Decides-eqb}
use Rattle.apl_syntax.proofs.Words.{empty}
use Rattle.apl_syntax.proofs.commands.command_of.Goals as goal

pub returns-then-is_empty : goal.returns-then-is_empty
returns-then-is_empty c = (
  (slice_eq-Decides Decides-eqb _ _ _ c.eq-else-eq-2.ensures).0 c.if-eq-3.true ∙ c.as_slice-else-eq-2.ensures,
  empty c.args.argument.now (sym c.is_empty.ensures ∙ c.if-is_empty.true),
)

pub returns-then-is_empty-2 : goal.returns-then-is_empty-2
returns-then-is_empty-2 c = (
  (slice_eq-Decides Decides-eqb _ _ _ c.eq-else-eq-3.ensures).0 c.if-eq-4.true ∙ c.as_slice-else-eq-3.ensures,
  empty c.args.argument.now (sym c.is_empty-then-eq-4.ensures ∙ c.if-is_empty-2.true),
)
