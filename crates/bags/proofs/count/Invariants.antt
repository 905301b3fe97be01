use Prim.Native.Nat.{◌-◌}
use Rattle.bags.specs.Walks.{Counting}
use Rattle.bags.proofs.count.Given as goal

abbrev pub invariant-loop-p : goal.invariant-loop-p
invariant-loop-p l = Counting l.s l.run.end l.initial.p l.p l.n

abbrev pub decreases-loop-p : goal.decreases-loop-p
decreases-loop-p l = l.run.end - l.p
