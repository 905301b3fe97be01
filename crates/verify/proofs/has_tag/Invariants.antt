use Prim.Native.Nat.{◌-◌}
use Rattle.verify.specs.ShapesLaws.{Seeking}
use Rattle.verify.proofs.has_tag.Given as goal

abbrev pub invariant-loop-p : goal.invariant-loop-p
invariant-loop-p l = Seeking l.s l.zone l.tag l.p

abbrev pub decreases-loop-p : goal.decreases-loop-p
decreases-loop-p l = l.zone.end - l.p
