use native.Mathlib.Omega.{arith}
use Rattle.shown.specs.ShownLaws.{showing_start, compares, showing_short, showing_differs, showing_next, showing_end}
use Rattle.shown.proofs.zone_shown.Goals as goal

pub loop-k-init : goal.loop-k-init
loop-k-init c = showing_start c.requires.0 (omega (arith, c.requires.1.ordered, c.requires.1.inside))

pub returns-then-end-p : goal.returns-then-end-p
returns-then-end-p c = showing_short c.requires.0 c.loop-k.invariant c.loop-k-test.true c.if-end-p.true

pub matches-requires : goal.matches-requires
matches-requires c = rw c.from.ensures (compares c.requires.0 c.loop-k.invariant c.loop-k-test.true)

pub returns-in_default : goal.returns-in_default
returns-in_default c = showing_differs c.requires.0 c.loop-k.invariant c.loop-k-test.true c.how_at.ensures c.if-end-p.false (rw c.from.ensures at c.matches.ensures) c.in_default.is

pub loop-k-preserved : goal.loop-k-preserved
loop-k-preserved c = showing_next c.requires.0 c.loop-k.invariant c.loop-k-test.true c.how_at.ensures c.if-end-p.false (rw c.from.ensures at c.matches.ensures) c.in-Some.is

pub returns : goal.returns
returns c = showing_end c.requires.0 c.loop-k.invariant c.loop-k-test.false
