use Rattle.bags.specs.WalksLaws.{agreeing_next, agreeing_stops, agreeing_end}
use mathlib.Core.Path.{refl}
use Rattle.bags.proofs.agree_on.Goals as goal

pub returns-then-times_in : goal.returns-then-times_in
returns-then-times_in c = agreeing_stops _ _ _ _ _ c.loop-p.invariant refl refl c.times_in.ensures c.times_in-in-loop-p.ensures c.loop-p-test.true c.if-times_in.true refl refl refl

pub loop-p-preserved : goal.loop-p-preserved
loop-p-preserved c = agreeing_next _ _ _ _ _ c.loop-p.invariant refl refl c.times_in.ensures c.times_in-in-loop-p.ensures c.loop-p-test.true c.if-times_in.false c.next_formula-p.ensures

pub returns : goal.returns
returns c = agreeing_end _ _ _ _ _ c.loop-p.invariant c.loop-p-test.false refl refl refl
