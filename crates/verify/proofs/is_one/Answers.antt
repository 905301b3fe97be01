use borrow.Author.Tests.{ne_eqb}
use Rattle.verify.specs.ShapesLaws.{not_one, one_found}
use Rattle.verify.proofs.is_one.Goals as goal

pub returns-then-zone-at-eq1 : goal.returns-then-zone-at-eq1
returns-then-zone-at-eq1 c = one_found c.if-zone-at-eq1.true

pub returns-else-zone-at-eq1 : goal.returns-else-zone-at-eq1
returns-else-zone-at-eq1 c = rw (ne_eqb _ _ c.if-zone-at-eq1.false) (not_one c.if-zone-at-eq1.false)
