use Rattle.apl_print.proofs.ShownLemmas as lemmas
use Rattle.apl_print.proofs.values.shown_always.Goals as goal

pub returns : goal.returns
returns c = λ a width. lemmas.shown_always a width
