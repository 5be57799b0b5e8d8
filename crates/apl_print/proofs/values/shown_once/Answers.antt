use Rattle.apl_print.proofs.ShownLemmas as lemmas
use Rattle.apl_print.proofs.values.shown_once.Goals as goal

pub returns : goal.returns
returns c = λ a width s t. lemmas.shown_once a width s t
