use Rattle.bags.specs.Walks.{CountingAll}
use Rattle.bags.proofs.count_in.Given as goal

abbrev pub invariant-loop-run : goal.invariant-loop-run
invariant-loop-run l = CountingAll l.s l.bag l.run-index l.n
