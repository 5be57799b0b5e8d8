use Rattle.tests_reading.proofs.recogniser.+recogniser.Given as goal

abbrev pub decreases-derive : goal.decreases-derive
decreases-derive l = l.depth

abbrev pub decreases-derives : goal.decreases-derives
decreases-derives l = l.depth
