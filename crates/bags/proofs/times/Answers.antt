use Rattle.bags.specs.WalksLaws.{timing_next, timing_end}
use mathlib.Core.Path.{refl}
use Rattle.bags.proofs.times.Goals as goal

pub loop-p-preserved : goal.loop-p-preserved
loop-p-preserved c = timing_next _ _ _ _ c.loop-p.invariant c.loop-p-test.true c.requires.0.end_inside c.once-n.ensures refl refl refl c.next_formula-p.ensures

pub returns : goal.returns
returns c = timing_end _ _ _ _ c.loop-p.invariant c.loop-p-test.false refl refl refl
