use Prim.Native.Nat.{◌-◌}
use Rattle.tree.specs.ReadingLaws.{Counting}
use Rattle.tree.proofs.read_formulas.Given as goal

abbrev pub invariant-loop-p : goal.invariant-loop-p
invariant-loop-p l = Counting l.s l.at l.end l.count l.p

abbrev pub decreases-loop-p : goal.decreases-loop-p
decreases-loop-p l = l.end - l.p
