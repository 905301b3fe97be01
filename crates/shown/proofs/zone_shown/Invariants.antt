use Rattle.shown.specs.Matching.{Showing}
use Rattle.shown.proofs.zone_shown.Given as goal

abbrev pub invariant-loop-k : goal.invariant-loop-k
invariant-loop-k l = Showing l.mem l.items l.spelled l.s l.initial.p l.end l.p l.k
