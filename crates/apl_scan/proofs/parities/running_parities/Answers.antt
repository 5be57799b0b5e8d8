use Rattle.apl_scan.proofs.ParityWords.{parity_bit}
use Rattle.apl_scan.proofs.parities.running_parities.Goals as goal

pub returns : goal.returns
returns c = λ odd truths j d turned eight is within. parity_bit odd c.args.word c.args.before truths j d turned eight is within
