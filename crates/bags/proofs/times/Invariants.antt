use Prim.Native.Nat.{◌-◌}
use Rattle.bags.specs.Walks.{Timing}
use Rattle.bags.proofs.times.Given as goal

abbrev pub invariant-loop-p : goal.invariant-loop-p
invariant-loop-p l = Timing l.s l.run.end l.run.how l.initial.p l.p l.x l.n

abbrev pub decreases-loop-p : goal.decreases-loop-p
decreases-loop-p l = l.run.end - l.p
