use Rattle.verify.specs.ShapesLaws.{count_passed, count_wrong}
use Rattle.verify.proofs.count_fault.Goals as goal

pub returns-then-got-expected : goal.returns-then-got-expected
returns-then-got-expected c = count_passed _ _ c.if-got-expected.true

pub returns-else-got-expected : goal.returns-else-got-expected
returns-else-got-expected c = count_wrong _ _ c.if-got-expected.false
