use Prim.Native.Nat.{◌-◌}
use Rattle.question.specs.Negating.{Negating}
use Rattle.question.proofs.negate_formulas.Given as goal

abbrev pub invariant-loop-p : goal.invariant-loop-p
invariant-loop-p l = Negating l.s l.at l.end l.initial.out l.p l.out

abbrev pub decreases-loop-p : goal.decreases-loop-p
decreases-loop-p l = l.end - l.p
