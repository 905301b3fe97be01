use Rattle.verify.specs.ShapesLaws.{seeking_start, seeking_end, seeking_found, seeking_next}
use Rattle.verify.proofs.has_tag.Goals as goal

pub loop-p-init : goal.loop-p-init
loop-p-init c = seeking_start c.requires

pub returns-then-s-p : goal.returns-then-s-p
returns-then-s-p c = seeking_found c.requires c.loop-p.invariant c.loop-p-test.true c.if-s-p.true

pub loop-p-preserved : goal.loop-p-preserved
loop-p-preserved c = seeking_next c.requires c.loop-p.invariant c.loop-p-test.true c.if-s-p.false c.next_formula-p.ensures

pub returns : goal.returns
returns c = seeking_end c.requires c.loop-p.invariant c.loop-p-test.false
