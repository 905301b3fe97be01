use Rattle.held.proofs.turn.+negated.Given as goal

abbrev pub decreases-negated : goal.decreases-negated
decreases-negated l = l.x
