use Rattle.bags.specs.WalksLaws.{timing_all_next, timing_all_end}
use Rattle.bags.proofs.times_in.Goals as goal

pub loop-run-preserved : goal.loop-run-preserved
loop-run-preserved c = timing_all_next _ _ _ c.loop-run.invariant _ c.requires.0 c.loop-run-test.true c.times-n.ensures

pub returns : goal.returns
returns c = timing_all_end _ _ _ c.loop-run.invariant c.loop-run-test.false
