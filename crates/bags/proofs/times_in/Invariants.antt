use Rattle.bags.specs.Walks.{TimingAll}
use Rattle.bags.proofs.times_in.Given as goal

abbrev pub invariant-loop-run : goal.invariant-loop-run
invariant-loop-run l = TimingAll l.s l.bag l.run-index l.x l.n
