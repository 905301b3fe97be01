use Rattle.expand.specs.Writing.{Weighs}
use Rattle.expand.proofs.writers.items_length.Given as goal

abbrev pub invariant-loop-x : goal.invariant-loop-x
invariant-loop-x l = Weighs l.mem l.items l.x-index l.sum
