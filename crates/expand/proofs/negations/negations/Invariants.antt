use Rattle.expand.specs.Negations.{Table}
use Rattle.expand.proofs.negations.negations.Given as goal

abbrev pub invariant-loop-x : goal.invariant-loop-x
invariant-loop-x l = Table l.mem l.table l.x
