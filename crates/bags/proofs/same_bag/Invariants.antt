use Rattle.bags.specs.Walks.{AgreeingAll}
use Rattle.bags.proofs.same_bag.Given as goal

abbrev pub invariant-loop-run : goal.invariant-loop-run
invariant-loop-run l = AgreeingAll l.s l.x l.run-index l.x l.y
