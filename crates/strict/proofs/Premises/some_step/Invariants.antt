use Prim.Native.Nat.{◌-◌}
use Rattle.strict.specs.Rules.{Trying}
use Rattle.strict.proofs.Premises.some_step.Given as goal

abbrev pub invariant-loop-x : goal.invariant-loop-x
invariant-loop-x l = Trying l.self.s.now l.zone.end l.self.q l.self.p l.self.p2 l.initial.x l.x

abbrev pub decreases-loop-x : goal.decreases-loop-x
decreases-loop-x l = l.zone.end - l.x
