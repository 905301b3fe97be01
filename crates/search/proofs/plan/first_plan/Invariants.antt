use lib.ListN.{take}
use Rattle.logic.specs.Built.{Passed}
use Rattle.search.specs.Plans.{sequent}
use Rattle.search.proofs.plan.first_plan.Given as goal

abbrev pub invariant-loop-i : goal.invariant-loop-i
invariant-loop-i l = Passed (take l.i (sequent l.mem l.z).linear)
