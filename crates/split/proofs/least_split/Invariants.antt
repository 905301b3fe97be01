use Rattle.split.specs.Tensors.{Tried}
use Rattle.split.proofs.least_split.Given as goal

abbrev pub invariant-loop-i : goal.invariant-loop-i
invariant-loop-i l = Tried l.mem l.fn.z l.s l.left l.right l.l l.r l.i
