use Rattle.formula.proofs.+read_formula.Given as goal

abbrev pub decreases-read_formula : goal.decreases-read_formula
decreases-read_formula l = l.levels
