use Rattle.failures.proofs.Steps.{Fitting}
use Rattle.failures.proofs.form.items_fit.Given as goal

abbrev pub invariant-loop-k : goal.invariant-loop-k
invariant-loop-k l = Fitting l.held l.fail l.i l.n l.last l.k
