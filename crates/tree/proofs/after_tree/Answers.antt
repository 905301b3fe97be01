use native.Mathlib.Omega.{arith}
use Rattle.tree.specs.PlacesLaws.{passing_start, passing_end, passing_short, passing_next}
use Rattle.tree.proofs.after_tree.Goals as goal

pub loop-awaited-init : goal.loop-awaited-init
loop-awaited-init c = passing_start c.args.s.now c.args.at c.requires

pub returns-then-s-p : goal.returns-then-s-p
returns-then-s-p c = passing_short c.args.s.now c.args.at c.loop-awaited.invariant c.if-s-p.true

pub loop-awaited-preserved : goal.loop-awaited-preserved
loop-awaited-preserved c = passing_next c.args.s.now c.args.at c.loop-awaited.invariant _ c.loop-awaited-test.true c.node_at-n.ensures

pub returns : goal.returns
returns c = passing_end c.args.s.now c.args.at c.loop-awaited.invariant (omega (arith, c.loop-awaited-test.false))
