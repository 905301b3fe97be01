use Rattle.expand.specs.Negations.{Above}
use Rattle.expand.proofs.negations.top.Given as goal

abbrev pub invariant-loop-x : goal.invariant-loop-x
invariant-loop-x l = Above l.mem l.x l.r
