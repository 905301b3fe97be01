use Rattle.bags.specs.ComparedLaws.{compare_none, compare_one, compare_left, compare_two}
use borrow.Author.Rules.{rules}
use native.Mathlib.Omega.{arith}
use Rattle.bags.proofs.+compare.Goals as goal

pub returns-then-levels-eq0 : goal.returns-then-levels-eq0
returns-then-levels-eq0 t c = rw c.if-levels-eq0.true (compare_none _ _ _)

pub returns-in_err-a-in-Two : goal.returns-in_err-a-in-Two
returns-in_err-a-in-Two t c = let h = compare_left _ _ _ c.compare_tops.ensures (omega (arith, c.if-levels-eq0.false)) c.left-in-Two.ensures c.left-in-Two-2.ensures c.compare-in-Two.ensures c.in-Two.is c.in_err-a-in-Two.was in let h = rw c.in_err-a-in-Two.was at h in search rules

pub returns-in-One : goal.returns-in-One
returns-in-One t c = compare_one _ _ _ c.compare_tops.ensures (omega (arith, c.if-levels-eq0.false)) c.left.ensures c.left-in-One.ensures c.compare.ensures c.in-One.is

pub returns-in_ok-a-in-Two : goal.returns-in_ok-a-in-Two
returns-in_ok-a-in-Two t c = compare_two _ _ _ c.compare_tops.ensures (omega (arith, c.if-levels-eq0.false)) c.left-in-Two.ensures c.left-in-Two-2.ensures c.compare-in-Two.ensures c.in-Two.is c.in_ok-a-in-Two.was c.right.ensures c.right-in-Two.ensures c.compare-in-Two-2.ensures
