use Rattle.bags.proofs.+compare.Given as goal

abbrev pub decreases-compare : goal.decreases-compare
decreases-compare l = l.levels
