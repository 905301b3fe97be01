use Rattle.bags.specs.WalksLaws.{counting_next, counting_end}
use mathlib.Core.Path.{refl}
use Rattle.bags.proofs.count.Goals as goal

pub loop-p-preserved : goal.loop-p-preserved
loop-p-preserved c = counting_next _ _ c.loop-p.invariant c.loop-p-test.true c.requires.end_inside c.next_formula-p.ensures

pub returns : goal.returns
returns c = counting_end _ _ c.loop-p.invariant c.loop-p-test.false refl refl
