use Rattle.strict.specs.Zones.{part_how}
use borrow.Author.Tests.{eq-eqb, ne_eqb}
use Rattle.strict.proofs.part_how.Goals as goal

pub returns-then-tag-eq10 : goal.returns-then-tag-eq10
unfolding part_how
returns-then-tag-eq10 c = rw (part_how, eq-eqb _ _ c.if-tag-eq10.true)

pub returns-else-tag-eq10 : goal.returns-else-tag-eq10
unfolding part_how
returns-else-tag-eq10 c = rw (part_how, ne_eqb _ _ c.if-tag-eq10.false)
