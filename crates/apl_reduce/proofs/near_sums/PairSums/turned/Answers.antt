use Rattle.apl_reduce.proofs.near_sums.PairSums.turned.Goals as goal

pub returns : goal.returns
returns c = λ numbers first pairs few sums. c.less.ensures numbers first pairs few sums.firsts sums.seconds
