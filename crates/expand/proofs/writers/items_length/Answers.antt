use Rattle.expand.proofs.ByteSteps.{weighs_start, weighs_next}
use Rattle.expand.proofs.writers.items_length.Goals as goal

pub loop-x-init : goal.loop-x-init
loop-x-init c = weighs_start c.requires

pub loop-x-preserved : goal.loop-x-preserved
loop-x-preserved c = weighs_next c.requires c.loop-x-test.true c.loop-x.invariant c.field-sum.ensures
