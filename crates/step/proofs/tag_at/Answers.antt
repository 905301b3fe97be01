use Rattle.step.proofs.TakingSteps.{tag_none, tag_here}
use Rattle.step.proofs.tag_at.Goals as goal

pub returns-then-n-i : goal.returns-then-n-i
returns-then-n-i c = tag_none c.requires c.if-n-i.true

pub returns : goal.returns
returns c = tag_here c.requires c.if-n-i.false c.field.ensures
