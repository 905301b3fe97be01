use Rattle.bags.specs.CountingLaws.{other_lengths, other_run, all_runs, agreeing_all_next}
use Rattle.bags.proofs.same_bag.Goals as goal

pub returns-then-count_in : goal.returns-then-count_in
returns-then-count_in c = other_lengths _ _ _ c.count_in.ensures c.count_in-2.ensures c.if-count_in.true

pub returns-then-not-agree_on : goal.returns-then-not-agree_on
returns-then-not-agree_on c = other_run _ _ _ c.count_in.ensures c.count_in-2.ensures c.if-count_in.false c.loop-run.invariant _ c.loop-run-test.true c.agree_on.ensures c.if-not-agree_on.true

pub loop-run-preserved : goal.loop-run-preserved
loop-run-preserved c = agreeing_all_next _ _ _ _ c.loop-run-test.true c.loop-run.invariant c.agree_on.ensures c.if-not-agree_on.false

pub returns : goal.returns
returns c = all_runs _ _ _ c.count_in.ensures c.count_in-2.ensures c.if-count_in.false c.loop-run.invariant c.loop-run-test.false
