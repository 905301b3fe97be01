use Rattle.bags.specs.WalksLaws.{counting_all_next, counting_all_end}
use Rattle.bags.proofs.count_in.Goals as goal

pub loop-run-preserved : goal.loop-run-preserved
loop-run-preserved c = counting_all_next _ _ c.loop-run.invariant _ c.requires.0 c.loop-run-test.true c.count-n.ensures

pub returns : goal.returns
returns c = counting_all_end _ _ c.loop-run.invariant c.loop-run-test.false
