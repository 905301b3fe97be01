use Rattle.least.specs.Finding.{Tried}
use Rattle.least.proofs.least_place.Given as goal

abbrev pub invariant-loop-i : goal.invariant-loop-i
invariant-loop-i l = Tried l.mem l.z l.rule l.s l.at l.i
