use Rattle.enter.proofs.ListSteps.{Turning}
use Rattle.enter.proofs.lists.negate_listed.Given as goal

abbrev pub invariant-loop-k : goal.invariant-loop-k
invariant-loop-k l = Turning l.initial.mem l.initial.numbers l.n l.mem l.numbers l.k
