use Rattle.shown.proofs.+matches.Given as goal

abbrev pub decreases-matches : goal.decreases-matches
decreases-matches l = l.x
