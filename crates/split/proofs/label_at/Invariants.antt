use Rattle.split.specs.Splitting.{Unlike}
use Rattle.split.proofs.label_at.Given as goal

abbrev pub invariant-loop-x : goal.invariant-loop-x
invariant-loop-x l = Unlike l.mem l.fn.z l.s l.at l.x-index
