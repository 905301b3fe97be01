use Rattle.expand.proofs.SpellSteps.{left_some, number_next, number_spells}
use Rattle.expand.proofs.steps.spelled_number.Goals as goal

pub overflow_sub-left : goal.overflow_sub-left
overflow_sub-left c = left_some c.requires c.field-a.ensures c.field-b.ensures

pub find-requires : goal.find-requires
find-requires c = number_next c.requires c.field-a.ensures c.field-b.ensures

pub returns : goal.returns
returns c = rw c.unwrap_or.ensures (number_spells c.requires c.field-a.ensures c.field-b.ensures c.find.result c.find.ensures)
