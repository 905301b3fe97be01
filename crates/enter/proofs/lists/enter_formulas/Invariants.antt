use Rattle.enter.proofs.ListSteps.{ListingOf}
use Prim.Native.Nat.{◌-◌}
use Rattle.enter.proofs.lists.enter_formulas.Given as goal

abbrev pub invariant-loop-p : goal.invariant-loop-p
invariant-loop-p l = ListingOf l.initial.mem l.s l.at l.end l.initial.numbers l.from l.mem l.numbers l.p l.n

abbrev pub decreases-loop-p : goal.decreases-loop-p
decreases-loop-p l = l.end - l.p
