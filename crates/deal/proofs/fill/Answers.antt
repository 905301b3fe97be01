use Rattle.deal.proofs.Steps.{filling_start, filling_ready, filling_step, filling_end}
use Rattle.deal.proofs.fill.Goals as goal

pub loop-j-init : goal.loop-j-init
loop-j-init c = filling_start c.requires _

pub cell-v-requires : goal.cell-v-requires
cell-v-requires c = filling_ready c.requires c.loop-j.invariant c.loop-j-test.true

pub loop-j-preserved : goal.loop-j-preserved
loop-j-preserved c = filling_step c.requires c.loop-j.invariant c.loop-j-test.true c.cell-v.ensures

pub returns : goal.returns
returns c = filling_end c.requires c.loop-j.invariant c.loop-j-test.false
