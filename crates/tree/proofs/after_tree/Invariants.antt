use Prim.Native.Nat.{◌-◌}
use lib.ListN.{length}
use Rattle.tree.specs.PlacesLaws.{Passing}
use Rattle.tree.proofs.after_tree.Given as goal

abbrev pub invariant-loop-awaited : goal.invariant-loop-awaited
invariant-loop-awaited l = Passing l.s l.at l.awaited l.p

abbrev pub decreases-loop-awaited : goal.decreases-loop-awaited
decreases-loop-awaited l = length l.s - l.p
