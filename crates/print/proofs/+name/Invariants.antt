use Rattle.print.proofs.+name.Given as goal

abbrev pub decreases-name : goal.decreases-name
decreases-name l = l.n
