use Rattle.apl_scan.proofs.ParityWords.{word_is}
use Rattle.apl_scan.proofs.parities.word_from.Goals as goal

pub returns : goal.returns
returns c = word_is c.args.truths.now c.requires
