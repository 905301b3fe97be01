use mathlib.Core.Path.{refl}
use Rattle.deal.proofs.Steps.{filled_start, filled_before, filled_step, filled_end}
use Rattle.deal.proofs.table.Goals as goal

pub loop-i-init : goal.loop-i-init
loop-i-init c = filled_start c.requires _ refl

pub fill-requires : goal.fill-requires
fill-requires c = filled_before c.requires c.loop-i.invariant c.loop-i-test.true

pub loop-i-preserved : goal.loop-i-preserved
loop-i-preserved c = filled_step c.requires c.loop-i.invariant c.loop-i-test.true c.fill.ensures

pub returns : goal.returns
returns c = filled_end c.requires c.loop-i.invariant c.loop-i-test.false
