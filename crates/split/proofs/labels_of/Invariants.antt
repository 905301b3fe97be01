use Prim.Native.Nat.{◌-◌}
use Rattle.split.specs.Splitting.{Listing}
use Rattle.split.proofs.labels_of.Given as goal

abbrev pub invariant-loop-p : goal.invariant-loop-p
invariant-loop-p l = Listing l.mem l.s l.initial.p l.end l.n l.p l.numbers

abbrev pub decreases-loop-p : goal.decreases-loop-p
decreases-loop-p l = l.end - l.p
