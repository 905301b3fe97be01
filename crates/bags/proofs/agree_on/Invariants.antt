use Prim.Native.Nat.{◌-◌}
use Rattle.bags.specs.Walks.{Agreeing}
use Rattle.bags.proofs.agree_on.Given as goal

abbrev pub invariant-loop-p : goal.invariant-loop-p
invariant-loop-p l = Agreeing l.s l.run.end l.run.how l.initial.p l.p l.x l.y

abbrev pub decreases-loop-p : goal.decreases-loop-p
decreases-loop-p l = l.run.end - l.p
