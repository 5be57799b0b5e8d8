use Rattle.tests_reading.proofs.recogniser.+ends_some.Given as goal

abbrev pub decreases-ends_some : goal.decreases-ends_some
decreases-ends_some l = l.depth
