use Rattle.expand.proofs.SpellSteps.{first_here, first_next}
use Rattle.expand.proofs.steps.first_decomposable.Goals as goal

pub returns-then-decomposes : goal.returns-then-decomposes
returns-then-decomposes c = first_here c.requires c.loop-i-test.true c.loop-i.invariant c.field.ensures c.decomposes.ensures c.if-decomposes.true

pub loop-i-preserved : goal.loop-i-preserved
loop-i-preserved c = first_next c.requires c.loop-i-test.true c.loop-i.invariant c.field.ensures c.decomposes.ensures c.if-decomposes.false
