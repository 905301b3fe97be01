use Rattle.expand.proofs.NegationSteps.{above_raised}
use Rattle.expand.proofs.negations.above.Goals as goal

pub returns : goal.returns
returns c = above_raised c.requires.1 c.field-2.ensures c.requires.0.0 c.requires.0.1 c.field.ensures c.if-field-ne10.false c.max.ensures
