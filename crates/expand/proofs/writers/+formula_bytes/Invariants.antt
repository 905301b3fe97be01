use Rattle.expand.proofs.writers.+formula_bytes.Given as goal

abbrev pub decreases-formula_bytes : goal.decreases-formula_bytes
decreases-formula_bytes l = l.x
